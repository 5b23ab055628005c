use Rattle.std.proofs.Common.{[], Option, ap, ◌∙◌, unwrap_or}
use Rattle.std.proofs.lemmas.Option.{unwrap_or-slice_get}
use Rattle.flow_types.specs.Types.{Fields}
use Rattle.plan_check.proofs.schemas.input_of.Goals as goal

pub returns : goal.returns
returns c = ap (λ (o : Option Fields). unwrap_or o []) c.get.ensures.value ∙ unwrap_or-slice_get c.args.node.now.inputs c.args.i []
