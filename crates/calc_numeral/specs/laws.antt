pub mod Runs
pub mod Digits
pub mod Numerals
pub mod Stand
