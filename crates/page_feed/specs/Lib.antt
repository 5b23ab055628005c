pub mod Reach
pub mod Feeds
pub mod Feeding
pub mod ReachLaw
pub mod RunStreams
