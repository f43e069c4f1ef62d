pub mod Pieces
pub mod Begun
pub mod Steps
pub mod Room
pub mod History
