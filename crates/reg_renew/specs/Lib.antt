pub mod Renew
pub mod laws
