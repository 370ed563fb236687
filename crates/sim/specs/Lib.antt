pub mod State
pub mod Play
pub mod Laws
pub mod Queueing
pub mod Counting
pub mod Standing
