pub mod Parts
pub mod Readings
pub mod Examples
