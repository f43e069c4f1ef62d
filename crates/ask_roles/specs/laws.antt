pub mod Lent
pub mod Member
