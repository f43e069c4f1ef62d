pub mod Deep
pub mod laws
