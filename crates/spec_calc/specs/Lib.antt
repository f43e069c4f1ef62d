pub mod Symbol
pub mod Expression
pub mod Value
pub mod Answer
pub mod Readings
pub mod States
pub mod Scanner
pub mod Reader
