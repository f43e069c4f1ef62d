pub mod Names
pub mod Stores
pub mod Arrays
pub mod Scratch
pub mod Views
pub mod laws
