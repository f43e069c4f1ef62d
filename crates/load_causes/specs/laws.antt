pub mod Cause
