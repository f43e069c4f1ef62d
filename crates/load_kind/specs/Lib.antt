pub mod Keyword
pub mod laws
