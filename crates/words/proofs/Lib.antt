pub mod Refusing
pub mod Taking
pub mod Naming
pub mod Parsed
