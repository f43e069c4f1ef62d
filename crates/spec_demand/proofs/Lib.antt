pub mod laws
pub mod Front
