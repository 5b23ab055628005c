pub mod ChainLemmas
pub mod FreeLemmas
pub mod HeaderLemmas
pub mod PushLemmas
pub mod ReadLemmas
pub mod DamageLemmas
pub mod GrowthLemmas
pub mod SpillLemmas
