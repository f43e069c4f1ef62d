pub mod Rules
pub mod Sections
pub mod Strings
