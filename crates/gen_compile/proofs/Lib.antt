pub mod BlockSteps
pub mod CodeForms
pub mod Compiled
pub mod Jumps
pub mod KeptPlaces
pub mod SoundCode
pub mod SoundForms
pub mod ValueSteps
