pub mod SwapLemmas
pub mod CrowdLemmas
