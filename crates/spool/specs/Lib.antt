pub mod Headers
pub mod Runs
pub mod Reading
pub mod Changes
pub mod Spilling
pub mod Ios
