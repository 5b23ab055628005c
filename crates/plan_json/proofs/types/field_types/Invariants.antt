use Rattle.std.proofs.Common.{◌≡◌, drop, map}
use Rattle.serde_json.specs.View.{view}
use Rattle.plan_json.specs.Json.{collected}
use Rattle.plan_json.specs.Forms.{field_type}
use Rattle.plan_json.proofs.DataLemmas.{onto}
use Rattle.plan_json.proofs.types.field_types.Given as goal

abbrev pub invariant-loop-value : goal.invariant-loop-value
invariant-loop-value l =
    collected field_type (map view l.value-items) ≡ onto l.types.items (collected field_type (map view (drop l.value-index l.value-items)))
