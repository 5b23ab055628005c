use Rattle.std.proofs.Common.{◌≡◌, ℕ, ◌+◌, ◌<◌, None, length}
use Rattle.std.specs.Prelude.{slice_index_or}
use Rattle.flow_model.specs.declared.plan.Node.{Node}
use Rattle.worker_core.specs.Workers.{IsPipeFor}
use Rattle.worker_core.proofs.opening.open_pipes.Given as goal

abbrev pub invariant-nodes : goal.invariant-nodes
invariant-nodes l = record {
  len : length l.pipes.items ≡ l.node-index + 1;
  does : (k : ℕ) (d : Node) → k < l.node-index → IsPipeFor (slice_index_or l.plan.nodes k d) (slice_index_or l.pipes.items (k + 1) None);
}
