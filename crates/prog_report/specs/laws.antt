pub mod Length
pub mod Examples
