pub mod Word
pub mod Token
pub mod Place
pub mod Scanner
pub mod Spans
