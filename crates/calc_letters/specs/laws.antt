pub mod Letters
pub mod Lowest
pub mod Given
