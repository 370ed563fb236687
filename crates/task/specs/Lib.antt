pub mod Extensions
pub mod Turning
pub mod Tasks
pub mod Following
pub mod Laws
pub mod Parking
