pub mod Letters
pub mod Calculation
