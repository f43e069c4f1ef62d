pub mod Source
pub mod Pass
pub mod Passed
pub mod laws
