pub mod Set
pub mod laws
