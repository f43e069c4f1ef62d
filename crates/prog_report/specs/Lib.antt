pub mod Report
pub mod laws
