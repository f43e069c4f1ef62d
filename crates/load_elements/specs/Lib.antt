pub mod Parse
pub mod Reads
pub mod laws
