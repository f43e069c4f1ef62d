pub mod Codes
pub mod Search
pub mod Bare
pub mod Listed
pub mod Position
pub mod Roles
pub mod Seek
pub mod Tokens
