pub mod Body
pub mod laws
