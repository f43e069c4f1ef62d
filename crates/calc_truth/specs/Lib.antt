pub mod Answer
pub mod laws
