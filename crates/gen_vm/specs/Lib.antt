pub mod Depths
pub mod Finding
pub mod Places
pub mod Turns
pub mod Running
pub mod Standing
pub mod Answers
pub mod Going
