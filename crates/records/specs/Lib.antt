pub mod GrantsList
pub mod Records
