pub mod Pairs
pub mod Lowered
