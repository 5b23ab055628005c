use Rattle.std.proofs.Common.{◌≡◌, ℕ, ◌≤◌, List, length, take, drop}
use Rattle.flow_types.specs.Types.{Fields}
use Rattle.flow_types.specs.Records.{IsRecord}
use Rattle.record_codec.specs.Places.{start_of}
use Rattle.record_codec.proofs.place.field_start.Given as goal

-- field k begins at a place, and the bytes from there are the record of the fields from k on
pub record Reached (fields : Fields) (seen : List ℕ) (k start : ℕ) : Type 0 where
  pub place : start ≡ start_of (take k fields) seen
  pub inside : start ≤ length seen
  pub rest : IsRecord (drop k fields) (drop start seen)

abbrev pub invariant-loop-k : goal.invariant-loop-k
invariant-loop-k g l = Reached l.fields (g.X.Span.seen l.row) l.k l.start
