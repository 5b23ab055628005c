pub mod Json
pub mod Reading
pub mod Names
pub mod Numbers
pub mod Forms
pub mod Rows
