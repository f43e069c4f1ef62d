pub mod Cause
pub mod laws
