pub mod LawsOfFits
pub mod LawsOfOps
pub mod LawsOfParts
pub mod LawsOfPlanFits
pub mod LawsOfPlans
