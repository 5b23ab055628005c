pub mod ToldLemmas
pub mod WidenLemmas
pub mod ColumnLemmas
pub mod OpLemmas
pub mod BranchLemmas
