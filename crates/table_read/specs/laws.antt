pub mod Stored
pub mod Search
