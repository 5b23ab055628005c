pub mod Pages
pub mod Writing
pub mod Shares
pub mod Seen
pub mod Reading
pub mod ReadingLends
pub mod RecordLaws
pub mod Streams
