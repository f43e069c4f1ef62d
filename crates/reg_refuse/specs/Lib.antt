pub mod Room
pub mod laws
