use Rattle.std.proofs.Common.{arith, map}
use Rattle.serde_json.specs.View.{view}
use Rattle.plan_text.proofs.NodeLemmas.{length-placed}
use Rattle.plan_text.proofs.numbering.read_nodes.Goals as goal

pub read_list-requires : goal.read_list-requires
read_list-requires c =
    let long = length-placed 65 0 1 (map view c.args.items.now) in
    omega (arith, long, c.requires)
