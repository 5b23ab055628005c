use Rattle.std.proofs.Common.{◌≡◌, drop, map}
use Rattle.serde_json.specs.View.{view}
use Rattle.plan_json.specs.Json.{collected}
use Rattle.plan_exprs.specs.Exprs.{limited_expr}
use Rattle.plan_json.proofs.DataLemmas.{onto}
use Rattle.plan_exprs.proofs.exprs.limited_exprs.Given as goal

abbrev pub invariant-loop-value : goal.invariant-loop-value
invariant-loop-value l =
    collected limited_expr (map view l.value-items) ≡ onto l.exprs.items (collected limited_expr (map view (drop l.value-index l.value-items)))
