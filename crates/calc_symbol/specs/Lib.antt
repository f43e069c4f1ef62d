pub mod Scan
pub mod Lookahead
pub mod laws
