pub mod Begun
pub mod Digits
