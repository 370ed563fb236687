pub mod Ends
pub mod Faults
pub mod Laws
pub mod Levels
pub mod Looks
pub mod Parts
pub mod Readers
