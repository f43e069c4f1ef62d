pub mod Listed
pub mod Seek
pub mod Search
pub mod Position
pub mod Roles
pub mod Spans
pub mod Bounded
pub mod laws
