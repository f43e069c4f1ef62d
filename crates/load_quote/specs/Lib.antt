pub mod Quote
pub mod laws
