pub mod Head
pub mod laws
