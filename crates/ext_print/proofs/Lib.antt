pub mod Blocks
pub mod Canonical
