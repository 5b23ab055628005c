pub mod Completes
pub mod Outcome
pub mod Refuses
pub mod Stops
