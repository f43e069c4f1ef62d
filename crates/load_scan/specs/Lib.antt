pub mod Found
pub mod Stored
pub mod Answer
pub mod laws
