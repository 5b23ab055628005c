pub mod FitLemmas
pub mod TurnedLemmas
pub mod FormLemmas
pub mod OrderLemmas
pub mod WrittenLemmas
pub mod TextLemmas
pub mod FieldLemmas
