pub mod Lane
pub mod Machine
pub mod Laws
