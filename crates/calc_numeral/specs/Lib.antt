pub mod Numeral
pub mod laws
