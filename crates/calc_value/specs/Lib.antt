pub mod Strict
pub mod Parse
pub mod Answer
pub mod laws
