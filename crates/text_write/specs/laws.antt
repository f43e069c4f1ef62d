pub mod Access
pub mod Whole
