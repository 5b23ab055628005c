pub mod Swaps
pub mod Crowd
