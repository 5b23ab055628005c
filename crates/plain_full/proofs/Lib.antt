pub mod FindLemmas
pub mod FullLemmas
pub mod HashLemmas
pub mod WalkLemmas
