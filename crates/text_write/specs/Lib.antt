pub mod Access
pub mod laws
