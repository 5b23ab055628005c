pub mod CountLemmas
pub mod Lifting
pub mod Swapping
