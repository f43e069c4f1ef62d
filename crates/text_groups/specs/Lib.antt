pub mod Groups
pub mod laws
