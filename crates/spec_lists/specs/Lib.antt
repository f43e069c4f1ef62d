pub mod Text
pub mod Select
pub mod Runs
pub mod Words
pub mod Every
