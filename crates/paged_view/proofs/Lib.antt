pub mod PageLemmas
pub mod FillLemmas
pub mod WritingLemmas
pub mod SpanLemmas
pub mod RecordLemmas
pub mod ReadingLemmas
pub mod TakingLemmas
