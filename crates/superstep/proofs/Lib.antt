pub mod Emits
pub mod EngineLemmas
pub mod Ledgers
pub mod Loads
pub mod Making
pub mod Results
