pub mod Growing
pub mod Ranks
pub mod Searching
pub mod Weights
pub mod Kept
