pub mod Repeated
pub mod laws
