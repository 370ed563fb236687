pub mod Lines
pub mod Entries
pub mod Summary
pub mod Numbering
