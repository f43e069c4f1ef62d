pub mod Layout
pub mod View
pub mod Table
pub mod Check
pub mod Policy
pub mod Written
pub mod Fields
