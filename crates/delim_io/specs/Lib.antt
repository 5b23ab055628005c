pub mod Fields
pub mod Input
pub mod LinesLeft
pub mod LineWriter
pub mod ResultText
