pub mod Groups
pub mod Found
pub mod Walk
pub mod LookUp
pub mod Answer
pub mod Refused
pub mod Roles
pub mod Privilege
