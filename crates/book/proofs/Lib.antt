pub mod Growing
pub mod Unmoved
pub mod Soundness
pub mod Verdicts
pub mod Standing
pub mod Indexing
pub mod Joining
