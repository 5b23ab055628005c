pub mod Files
pub mod Living
pub mod Told
