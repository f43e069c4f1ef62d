pub mod Script
pub mod Demand
pub mod Refused
