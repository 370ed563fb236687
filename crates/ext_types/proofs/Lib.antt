pub mod TypingEquations
pub mod WalkLemmas
