pub mod Sections
pub mod Strings
pub mod laws
