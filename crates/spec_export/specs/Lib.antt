pub mod Says
pub mod Unwritable
pub mod Export
