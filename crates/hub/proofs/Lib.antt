pub mod Counting
pub mod Kept
pub mod Owing
pub mod Turns
pub mod Handing
pub mod Loads
pub mod Seats
pub mod Resting
