pub mod Free
pub mod Names
pub mod Placed
