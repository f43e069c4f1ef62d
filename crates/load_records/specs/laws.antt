pub mod Tokens
pub mod Cursors
pub mod Rules
pub mod Bounds
pub mod Steps
