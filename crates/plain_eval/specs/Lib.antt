pub mod Iterations
pub mod Parts
