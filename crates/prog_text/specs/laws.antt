pub mod Put
pub mod Digits
