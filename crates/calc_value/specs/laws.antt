pub mod Strict
pub mod Steps
pub mod Whole
