pub mod Left
pub mod Names
pub mod Ended
pub mod Filled
