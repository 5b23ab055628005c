pub mod Allotments
pub mod Worked
