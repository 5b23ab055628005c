use Rattle.std.proofs.Common.{ℕ, ◌≤◌, ◌↔◌, List, length, drop}
use Rattle.flow_types.specs.Types.{Fields}
use Rattle.flow_types.specs.Records.{IsRecord}
use Rattle.record_codec.proofs.check.check_fields.Given as goal

-- the bytes are a record exactly where those from a place on are that of the fields from i on
pub record Reached (fields : Fields) (seen : List ℕ) (i start : ℕ) : Type 0 where
  pub inside : start ≤ length seen
  pub same : IsRecord fields seen ↔ IsRecord (drop i fields) (drop start seen)

abbrev pub invariant-loop-field : goal.invariant-loop-field
invariant-loop-field g l = Reached l.fields (g.X.Span.seen l.row) l.field-index l.start
