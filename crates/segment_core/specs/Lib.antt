pub mod Segments
pub mod Ledger
pub mod Lending
