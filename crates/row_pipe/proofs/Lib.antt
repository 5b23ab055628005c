pub mod Adding
pub mod Passing
pub mod Turning
pub mod Showing
pub mod Resting
pub mod Typing
pub mod LawLemmas
