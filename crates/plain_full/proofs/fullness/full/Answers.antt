use Rattle.std.proofs.Common.{◌≡◌, subst}
use Rattle.std.specs.Prelude.{IfOk, Option, option_map}
use Rattle.flow_model.specs.Full.{Demand}
use Rattle.plain_full.specs.Demands.{seen}
use Rattle.plain_full.proofs.FullLemmas.{full_from}
use Rattle.plain_full.proofs.fullness.full.Goals as goal

pub returns : goal.returns
returns c =
    subst (λ (o : Option Demand). IfOk c.first_of_nodes.result (λ first. option_map seen first ≡ o))
    (full_from c.args.plan.now c.args.inputs.now c.args.workers c.args.budget c.solution_bytes-have.result c.as_slice.result.now c.inputs.result.now c.as_slice.ensures c.inputs.ensures c.solution_bytes-have.ensures)
    c.first_of_nodes.ensures
