pub mod Arrays
pub mod Stores
pub mod Views
pub mod Same
