pub mod Calls
pub mod Counts
pub mod Files
pub mod Places
pub mod Shelf
pub mod SpillCalls
pub mod Spilled
