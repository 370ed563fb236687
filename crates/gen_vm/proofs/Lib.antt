pub mod DepthLemmas
pub mod FindingLemmas
pub mod StackLemmas
pub mod GoingLemmas
pub mod SteadyLemmas
pub mod StandingLemmas
pub mod AnswerLemmas
pub mod ResumeLemmas
