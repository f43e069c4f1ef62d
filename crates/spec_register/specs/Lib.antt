pub mod Register
pub mod Right
pub mod Refusal
pub mod Calls
pub mod Sentences
