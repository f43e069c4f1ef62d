pub mod Flags
pub mod laws
