pub mod Ending
pub mod Running
pub mod Playing
pub mod Checks
pub mod Drilling
pub mod Naming
