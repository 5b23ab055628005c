pub mod Served
pub mod Sources
pub mod Inputs
pub mod PlanEnds
pub mod InputEnds
