pub mod Limits
pub mod Onto
