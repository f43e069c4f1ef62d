pub mod Cases
pub mod Stacks
pub mod Tokens
