pub mod Knowing
pub mod Runs
pub mod Turns
pub mod Counting
pub mod Parts
pub mod Past
pub mod Machines
pub mod Stepping
