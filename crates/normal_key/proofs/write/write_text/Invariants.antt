use Rattle.std.proofs.Common.{ℕ, List, ◌-◌, ◌≤◌, Bool, map, take, drop}
use Rattle.std.specs.List.{flat_map}
use Rattle.normal_key.specs.NormalForms.{Adds, escaped, turned}
use Rattle.normal_key.proofs.write.write_text.Given as goal

-- the bytes of a text up to a place were written
pub record WrittenTo (down : Bool) (seen old now : List ℕ) (start at end : ℕ) : Type 0 where
  pub began : start ≤ at
  pub order : at ≤ end
  pub same : Adds old now (map (turned down) (flat_map escaped (take (at - start) (drop start seen))))

abbrev pub invariant-loop-at : goal.invariant-loop-at
invariant-loop-at g l = WrittenTo l.down (g.X.Span.seen l.row) l.fn.prefix l.prefix l.start l.at l.end

abbrev pub decreases-loop-at : goal.decreases-loop-at
decreases-loop-at g l = l.end - l.at
