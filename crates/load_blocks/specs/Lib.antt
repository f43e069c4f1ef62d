pub mod Blocks
pub mod laws
