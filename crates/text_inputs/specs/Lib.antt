pub mod Inputs
pub mod laws
