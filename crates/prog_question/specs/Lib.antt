pub mod Asked
pub mod laws
