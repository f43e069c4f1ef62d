pub mod Start
pub mod Class
pub mod Number
pub mod laws
