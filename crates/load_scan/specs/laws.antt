pub mod Steps
pub mod Filled
pub mod Answers
