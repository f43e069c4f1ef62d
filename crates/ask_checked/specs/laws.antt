pub mod Group
pub mod Decide
