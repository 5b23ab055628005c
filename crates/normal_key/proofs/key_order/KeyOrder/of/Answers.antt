-- The laws of every such order.
use Rattle.normal_key.proofs.OrderLemmas.{is_prefixed}
use Rattle.normal_key.proofs.key_order.KeyOrder.of.Goals as goal

pub invariant_of-result : goal.invariant_of-result
invariant_of-result c = record { law = is_prefixed c.args.schema.now c.args.key.now c.args.items.now c.args.whole }
