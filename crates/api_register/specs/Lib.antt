pub mod Numbers
pub mod laws
