pub mod Prefixes
pub mod Merging
pub mod Collected
pub mod Laws
