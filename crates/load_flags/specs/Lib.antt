pub mod Tokens
pub mod Flags
pub mod laws
