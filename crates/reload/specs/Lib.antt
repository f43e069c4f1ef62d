pub mod Reload
pub mod laws
