pub mod Load
pub mod Listing
