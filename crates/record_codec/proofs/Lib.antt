pub mod Utf8Lemmas
pub mod PrefixLemmas
pub mod RecordLemmas
pub mod PlaceLemmas
pub mod DecodeLemmas
pub mod EncodeLemmas
pub mod NumberLemmas
