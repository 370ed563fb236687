pub mod BorrowCounts
pub mod FaultLines
pub mod ItemLines
pub mod TypeCounts
pub mod Verdicts
pub mod OneRefusal
pub mod Told
pub mod Judged
