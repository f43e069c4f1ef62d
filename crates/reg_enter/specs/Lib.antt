pub mod Entered
pub mod laws
