pub mod TableLemmas
pub mod GivingEquations
pub mod OwnedEquations
pub mod PassLemmas
