pub mod Verdict
pub mod Standing
pub mod Ends
pub mod Laws
pub mod Indexes
pub mod Changes
