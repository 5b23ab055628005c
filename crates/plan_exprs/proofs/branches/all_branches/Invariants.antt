use Rattle.std.proofs.Common.{◌≡◌, drop, map}
use Rattle.std.specs.List.{list_all}
use Rattle.serde_json.specs.View.{view}
use Rattle.plan_exprs.specs.Branches.{is_branch}
use Rattle.plan_exprs.proofs.branches.all_branches.Given as goal

abbrev pub invariant-loop-value : goal.invariant-loop-value
invariant-loop-value l =
    list_all is_branch (map view l.value-items) ≡ list_all is_branch (map view (drop l.value-index l.value-items))
