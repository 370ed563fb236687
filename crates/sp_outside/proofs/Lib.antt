pub mod HearingSteps
pub mod ReadingSteps
pub mod WritingSteps
