pub mod Reads
pub mod laws
