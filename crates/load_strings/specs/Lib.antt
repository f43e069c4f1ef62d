pub mod Enclosed
pub mod laws
