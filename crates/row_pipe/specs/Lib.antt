pub mod Works
pub mod Pipes
pub mod Laws
