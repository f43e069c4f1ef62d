pub mod All
pub mod Follow
pub mod Sections
pub mod Used
