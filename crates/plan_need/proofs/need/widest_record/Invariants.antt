use Rattle.std.proofs.Common.{◌≡◌, ◌≤◌, take, fold}
use Rattle.std.specs.Prelude.{max}
use Rattle.flow_types.specs.Limits.{record_limit}
use Rattle.flow_types.specs.Types.{widest}
use Rattle.flow_model.specs.declared.plan.Node.{Node}
use Rattle.plan_need.proofs.need.widest_record.Given as goal

abbrev pub invariant-loop-node : goal.invariant-loop-node
invariant-loop-node l = record {
  most : l.most ≡ fold (λ most (node : Node). max most (widest node.schema)) 0 (take l.node-index l.plan.nodes);
  bound : l.most ≤ record_limit;
}
