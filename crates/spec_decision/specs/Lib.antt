pub mod Decision
pub mod LookUp
pub mod Groups
pub mod Walk
pub mod Privilege
