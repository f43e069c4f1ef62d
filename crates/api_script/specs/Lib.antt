pub mod Script
pub mod Replies
pub mod Demand
pub mod laws
