pub mod Known
pub mod laws
