pub mod OrderLemmas
pub mod PlaceLemmas
pub mod BestLemmas
pub mod MergeLemmas
pub mod TakeLemmas
pub mod PrefixLemmas
