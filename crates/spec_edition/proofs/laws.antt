pub mod Agreement
pub mod Later
