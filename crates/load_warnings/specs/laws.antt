pub mod Code
pub mod Filled
pub mod Plain
