pub mod First
pub mod Numbering
pub mod Pushed
pub mod Client
pub mod Plain
pub mod Placing
