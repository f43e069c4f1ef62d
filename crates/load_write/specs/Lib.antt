pub mod Passes
pub mod Header
pub mod Table
pub mod laws
