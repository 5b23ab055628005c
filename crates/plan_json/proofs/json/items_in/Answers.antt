use Rattle.std.proofs.Common.{Vec, Bor}
use Rattle.std.specs.declared.alloc.Global.{Global}
use Rattle.serde_json.specs.View.{view}
use Rattle.serde_json.specs.declared.value.Value.{Value}
use Rattle.plan_json.proofs.DataLemmas.{items_in-seen}
use Rattle.plan_json.proofs.json.items_in.Goals as goal

pub returns : goal.returns
returns c =
    items_in-seen (λ (v : Bor (Vec Value Global)). v.now.items) (view c.args.value.now) c.as_array.result c.as_array.ensures
