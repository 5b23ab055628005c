use Rattle.std.proofs.Common.{◌≡◌, ℕ, ◌*◌, ◌≤◌, take, drop}
use Rattle.flow_types.specs.Tuples.{Tuple}
use Rattle.flow_types.specs.Types.{Fields, fits}
use Rattle.flow_types.specs.Records.{size}
use Rattle.record_codec.proofs.encode.size_of.Given as goal

-- the first i values fit, and their sizes were added
pub record Added (fields : Fields) (values : Tuple) (i total : ℕ) : Type 0 where
  pub fitting : fits fields values ≡ fits (drop i fields) (drop i values)
  pub same : total ≡ size (take i values)
  pub small : total ≤ i * 16384

abbrev pub invariant-loop-i : goal.invariant-loop-i
invariant-loop-i l = Added l.fields l.values l.i l.total
