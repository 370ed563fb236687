pub mod Codes
pub mod Machine
pub mod Sound
pub mod Does
