pub mod Kept
pub mod laws
