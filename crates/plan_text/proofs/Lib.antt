pub mod NodeLemmas
pub mod PlanLemmas
