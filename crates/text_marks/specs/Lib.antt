pub mod Room
pub mod Writes
pub mod Names
pub mod laws
