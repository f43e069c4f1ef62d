pub mod Few
pub mod Lines
pub mod Checked
