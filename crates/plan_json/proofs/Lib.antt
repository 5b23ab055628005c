pub mod DataLemmas
pub mod ReadingLemmas
