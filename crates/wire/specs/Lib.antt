pub use Rattle.sp_base.specs.Spelling
pub mod Readers
pub mod Fields
pub mod Requests
pub mod Answers
pub mod Messages
