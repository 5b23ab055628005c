pub mod Blocks
pub mod Causes
pub mod Files
pub mod Readers
pub mod Slots
pub mod Told
pub mod Words
