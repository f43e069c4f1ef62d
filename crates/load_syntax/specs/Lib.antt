pub mod Syntax
pub mod laws
