pub mod Numbers
pub mod Floats
pub mod Named
pub mod Examples
