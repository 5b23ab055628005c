pub mod PackedLemmas
pub mod AboveLemmas
pub mod KeepLemmas
