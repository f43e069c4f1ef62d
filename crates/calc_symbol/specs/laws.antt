pub mod Bytes
pub mod Scans
pub mod Lookaheads
