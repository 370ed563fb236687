pub use Rattle.sp_base.specs.Limits
pub use Rattle.sp_base.specs.Spelling
pub mod Frames
pub mod Framing
