use Rattle.std.proofs.Common.{◌≡◌, ℕ, ◌++◌, List, length}
use Rattle.flow_types.specs.Types.{Fields}
use Rattle.flow_types.specs.Tuples.{Tuple}
use Rattle.packed_rows.specs.Packed.{rows_in, IsPacked}
use Rattle.packed_rows.proofs.rows.PackedRows.unpack.Given as goal

-- the rows before the rest were decoded
pub record Unpacked (fields : Fields) (all : List ℕ) (rows : List Tuple) (rest : List ℕ) : Type 0 where
  pub packed : IsPacked fields rest
  pub same : rows ++ rows_in fields rest ≡ rows_in fields all

abbrev pub invariant-loop-rest : goal.invariant-loop-rest
invariant-loop-rest l = Unpacked l.schema l.self l.rows.items l.rest

abbrev pub decreases-loop-rest : goal.decreases-loop-rest
decreases-loop-rest l = length l.rest
