pub mod FindingLemmas
pub mod BlockLemmas
pub mod CallLemmas
pub mod StepLemmas
