pub mod Limit
pub mod Count
