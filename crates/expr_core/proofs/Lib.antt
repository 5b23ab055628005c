pub mod FieldLemmas
pub mod SeenLemmas
pub mod TextLemmas
pub mod ExprLemmas
pub mod ColumnLemmas
