pub mod Field
pub mod laws
