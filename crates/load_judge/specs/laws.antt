pub mod Taken
pub mod Judged
pub mod Bounded
