pub mod LookUp
pub mod Walk
