use Rattle.std.proofs.Common.{◌≡◌, ℕ, ◌≤◌, ◌++◌, List, length, drop}
use Rattle.flow_types.specs.Types.{Fields}
use Rattle.flow_types.specs.Tuples.{Tuple}
use Rattle.flow_types.specs.Records.{IsRecord, tuple_of}
use Rattle.record_codec.proofs.decode.decode.Given as goal

-- the values before field i were read, and the bytes from a place on are the record of the fields from i on
pub record Reached (fields : Fields) (seen : List ℕ) (i start : ℕ) (values : Tuple) : Type 0 where
  pub inside : start ≤ length seen
  pub rest : IsRecord (drop i fields) (drop start seen)
  pub same : values ++ tuple_of (drop i fields) (drop start seen) ≡ tuple_of fields seen

abbrev pub invariant-loop-field : goal.invariant-loop-field
invariant-loop-field g l = Reached l.fields (g.X.Span.seen l.row) l.field-index l.start l.values.items
