pub mod Storage
pub mod Writing
pub mod Calls
