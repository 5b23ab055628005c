pub mod Fits
pub mod Comparisons
pub mod NormalForms
pub mod Laws
