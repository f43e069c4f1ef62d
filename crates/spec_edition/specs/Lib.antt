pub mod Edition
pub mod Machine
