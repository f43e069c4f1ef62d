pub mod Repeated
pub mod Seen
