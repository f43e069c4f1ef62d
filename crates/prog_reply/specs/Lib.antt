pub mod Reply
pub mod laws
