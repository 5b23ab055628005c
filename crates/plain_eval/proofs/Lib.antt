pub mod EnvLemmas
pub mod InputLemmas
pub mod IterationLemmas
pub mod StateLemmas
