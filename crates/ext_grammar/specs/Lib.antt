pub mod Agreement
pub mod Coming
pub mod Reading
