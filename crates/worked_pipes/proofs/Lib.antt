pub mod PipeLemmas
