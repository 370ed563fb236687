pub mod Refusals
pub mod Scenes
pub mod Walks
