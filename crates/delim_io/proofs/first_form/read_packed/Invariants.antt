use Rattle.std.proofs.Common.{ℕ, List, length}
use Rattle.flow_types.specs.Types.{Fields}
use Rattle.packed_rows.specs.Packed.{rows_in, IsPacked}
use Rattle.delim_io.proofs.LineLemmas.{Passed}
use Rattle.delim_io.proofs.first_form.read_packed.Given as goal

-- the lines before the rest were packed
pub record Packs (fields : Fields) (delimiter : ℕ) (bytes rows rest : List ℕ) : Type 0 where
  pub packed : IsPacked fields rows
  pub passed : Passed fields delimiter bytes (rows_in fields rows) rest

abbrev pub invariant-loop-rest : goal.invariant-loop-rest
invariant-loop-rest l = Packs l.schema l.delimiter l.bytes l.rows l.rest

abbrev pub decreases-loop-rest : goal.decreases-loop-rest
decreases-loop-rest l = length l.rest
