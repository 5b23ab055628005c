pub mod Weighing
pub mod Holders
