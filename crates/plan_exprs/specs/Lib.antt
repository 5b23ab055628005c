pub mod Exprs
pub mod Counted
pub mod Branches
