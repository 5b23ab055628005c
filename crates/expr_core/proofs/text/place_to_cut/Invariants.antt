use Rattle.std.proofs.Common.{◌≡◌, ℕ, List, ◌≤◌}
use Rattle.flow_types.specs.Expressions.{cut_place}
use Rattle.expr_core.specs.Places.{text_bytes}
use Rattle.expr_core.proofs.text.place_to_cut.Given as goal

abbrev pub invariant-loop-len : goal.invariant-loop-len
invariant-loop-len g l =
    let x : List ℕ = text_bytes (g.R.Source.seen l.row) l.room l.text in record {
      bound : l.len ≤ l.most;
      same : cut_place x l.len ≡ cut_place x l.most;
    }

abbrev pub decreases-loop-len : goal.decreases-loop-len
decreases-loop-len g l = l.len
