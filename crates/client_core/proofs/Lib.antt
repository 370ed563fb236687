pub mod Sayings
pub mod Items
pub mod Pairs
