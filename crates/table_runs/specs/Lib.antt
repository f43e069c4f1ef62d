pub mod Follow
pub mod laws
