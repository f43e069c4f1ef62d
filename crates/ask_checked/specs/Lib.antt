pub mod Group
pub mod laws
