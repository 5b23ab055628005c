pub mod Typing
pub mod Told
pub mod Ops
pub mod Sides
