pub mod Firsts
pub mod Numbers
pub mod Flags
