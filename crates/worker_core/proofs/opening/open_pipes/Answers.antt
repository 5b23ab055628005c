-- One pipe more.
use Rattle.std.proofs.Common.{◌≡◌, ◌<◌, [], ◌∷◌, sym, subst, arith, ap, length, length-append}
use Rattle.std.specs.Prelude.{IsTrue}
use Rattle.flow_model.specs.declared.plan.Node.{Node}
use Rattle.flow_model.specs.Rules.{node_holds}
use Rattle.row_pipe.proofs.LawLemmas.{node_opens}
use Rattle.worker_core.specs.Workers.{IsPipeFor}
use Rattle.worker_core.proofs.PipeLists.{item_in, pipes_end, pipes_pushed}
use Rattle.worker_core.proofs.opening.open_pipes.Goals as goal

pub pipe_of-requires : goal.pipe_of-requires
pipe_of-requires c = λ some.
    let e = c.as_slice-node-items.ensures in
    let low : c.nodes.node-index < length c.args.plan.now.nodes = omega (arith, c.nodes-test.true, ap length e) in
    node_opens c.args.plan.now.nodes c.node-item.result
    (subst (λ (m : Node). IsTrue (node_holds c.args.plan.now.nodes m)) (item_in c.as_slice-node-items.result.now c.args.plan.now.nodes e c.nodes.node-index c.node-item.result c.nodes-test.true c.node-item.is c.node-item.result) (c.requires.nodes c.nodes.node-index c.node-item.result low)) some

pub nodes-preserved : goal.nodes-preserved
nodes-preserved c =
    let e = c.as_slice-node-items.ensures in
    record {
      len = omega (arith, ap length c.in_ok-push-2.ensures.items, length-append c.nodes.pipes.items (c.in_ok-pipe_of.field-0 ∷ []), c.nodes.invariant.len);
      does = pipes_pushed c.args.plan.now.nodes c.nodes.pipes.items c.push-in-nodes.new.self.items c.nodes.node-index c.in_ok-pipe_of.field-0 c.in_ok-push-2.ensures.items c.nodes.invariant.len
          (λ d. subst (λ (m : Node). IsPipeFor m c.in_ok-pipe_of.field-0) (sym (item_in c.as_slice-node-items.result.now c.args.plan.now.nodes e c.nodes.node-index c.node-item.result c.nodes-test.true c.node-item.is d)) c.in_ok-pipe_of.ensures) c.nodes.invariant.does;
    }

pub returns : goal.returns
returns c =
    let full : c.nodes.node-index ≡ length c.args.plan.now.nodes = omega (arith, c.nodes-test.false, c.nodes.auto.node-index-end, ap length c.as_slice-node-items.ensures) in
    pipes_end c.args.plan.now.nodes c.nodes.pipes.items c.requires.numbers (omega (arith, c.nodes.invariant.len, full)) (λ k d low. c.nodes.invariant.does k d (omega (arith, low, full)))
