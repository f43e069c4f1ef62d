pub mod Text
pub mod Put
pub mod laws
pub mod Writes
