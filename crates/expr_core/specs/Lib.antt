pub mod Places
pub mod Needs
pub mod Joined
pub mod Laws
