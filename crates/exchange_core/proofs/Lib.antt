pub mod LogLemmas
pub mod LaneLemmas
pub mod MachineLemmas
