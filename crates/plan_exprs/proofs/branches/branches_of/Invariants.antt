use Rattle.std.proofs.Common.{◌≡◌, drop, map}
use Rattle.serde_json.specs.View.{view}
use Rattle.plan_json.specs.Json.{collected}
use Rattle.plan_exprs.specs.Branches.{branch_of}
use Rattle.plan_json.proofs.DataLemmas.{onto}
use Rattle.plan_exprs.proofs.branches.branches_of.Given as goal

abbrev pub invariant-loop-value : goal.invariant-loop-value
invariant-loop-value l =
    collected branch_of (map view l.value-items) ≡ onto l.branches.items (collected branch_of (map view (drop l.value-index l.value-items)))
