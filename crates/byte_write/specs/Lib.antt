pub mod Put
pub mod laws
