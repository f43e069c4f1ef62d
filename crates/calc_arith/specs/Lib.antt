pub mod Strict
pub mod laws
