pub mod Living
pub mod Naming
