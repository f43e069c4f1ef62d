pub mod Numbered
pub mod Names
