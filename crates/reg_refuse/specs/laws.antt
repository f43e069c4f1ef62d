pub mod Refused
pub mod Room
pub mod Told
