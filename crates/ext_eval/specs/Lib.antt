pub mod Worlds
pub mod Gives
pub mod Acts
pub mod Arms
pub mod Blocks
pub mod Finding
