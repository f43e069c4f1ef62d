pub mod Rules
pub mod laws
