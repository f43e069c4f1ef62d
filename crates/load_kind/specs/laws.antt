pub mod Keyword
