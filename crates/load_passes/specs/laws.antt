pub mod Each
pub mod Bounds
pub mod Loops
pub mod Passes
