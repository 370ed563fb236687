pub mod Firsts
pub mod Places
pub mod Carrying
pub mod Pushing
pub mod Heard
pub mod Sending
