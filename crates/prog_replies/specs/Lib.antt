pub mod Input
pub mod Pieces
pub mod laws
