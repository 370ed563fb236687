pub mod Doors
pub mod Faults
pub mod Hearing
pub mod Putting
pub mod Reading
pub mod Streams
pub mod Taking
pub mod Writing
