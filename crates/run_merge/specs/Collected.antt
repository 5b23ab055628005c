-- Streams that are to be merged.
use Rattle.std.specs.Prelude.{ℕ, List, Option}
use Rattle.run_merge.specs.declared.source.Source.{Source}

-- the most of them that there may be, and those that there are
pub record Collected (R : Type 0) : Type 0 where
  pub room : ℕ
  pub sources : List (Source R)

-- A merge of them by an order: the place of the stream whose record is shown.
pub record Merging (R O : Type 0) : Type 0 where
  pub room : ℕ
  pub sources : List (Source R)
  pub order : O
  pub shown : Option ℕ
