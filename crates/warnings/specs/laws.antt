pub mod Over
pub mod Listing
