pub mod Production
pub mod Reader
pub mod Codes
pub mod Sentence
