pub mod Fields
pub mod Limits
pub mod Places
pub mod Placing
pub mod RightsList
pub mod Spelling
