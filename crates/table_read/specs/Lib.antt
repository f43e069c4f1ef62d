pub mod Stored
pub mod Search
pub mod laws
