pub mod Records
pub mod laws
