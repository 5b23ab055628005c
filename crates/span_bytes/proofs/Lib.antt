pub mod PieceLemmas
pub mod DecideLemmas
pub mod CompareLemmas
