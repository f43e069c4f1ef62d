pub mod Judged
pub mod laws
