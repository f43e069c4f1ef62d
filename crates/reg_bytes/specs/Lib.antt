pub mod Placed
pub mod laws
