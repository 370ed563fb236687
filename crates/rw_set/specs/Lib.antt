pub mod ReadLists
pub mod Weight
pub mod Order
pub mod Sending
