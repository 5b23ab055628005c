pub mod CutLemmas
pub mod Indexed
pub mod KeyPieces
pub mod SolutionLemmas
pub mod Steps
