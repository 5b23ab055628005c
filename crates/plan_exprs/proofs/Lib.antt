pub mod Extents
pub mod Limited
