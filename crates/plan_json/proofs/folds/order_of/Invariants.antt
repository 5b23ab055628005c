use Rattle.std.proofs.Common.{◌≡◌, drop, map}
use Rattle.serde_json.specs.View.{view}
use Rattle.plan_json.specs.Json.{collected}
use Rattle.plan_json.specs.Forms.{order_item_of}
use Rattle.plan_json.proofs.DataLemmas.{onto}
use Rattle.plan_json.proofs.folds.order_of.Given as goal

abbrev pub invariant-loop-value : goal.invariant-loop-value
invariant-loop-value l =
    collected order_item_of (map view l.value-items) ≡ onto l.order.items (collected order_item_of (map view (drop l.value-index l.value-items)))
