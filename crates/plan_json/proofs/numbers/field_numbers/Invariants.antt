use Rattle.std.proofs.Common.{◌≡◌, drop, map}
use Rattle.serde_json.specs.View.{view}
use Rattle.plan_json.specs.Json.{collected}
use Rattle.plan_json.specs.Numbers.{field_number}
use Rattle.plan_json.proofs.DataLemmas.{onto}
use Rattle.plan_json.proofs.numbers.field_numbers.Given as goal

abbrev pub invariant-loop-value : goal.invariant-loop-value
invariant-loop-value l =
    collected field_number (map view l.value-items) ≡ onto l.numbers.items (collected field_number (map view (drop l.value-index l.value-items)))
