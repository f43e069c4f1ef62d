pub mod Work
pub mod Cursor
pub mod Record
pub mod Step
pub mod laws
