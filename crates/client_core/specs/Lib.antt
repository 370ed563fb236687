pub mod Talking
pub mod Hearing
pub mod Finishing
