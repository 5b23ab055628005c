-- One node more, and all of them.
use Rattle.std.proofs.Common.{◌<◌, [], arith, ap, length, subst}
use Rattle.worker_core.proofs.NodeRows.{kept_nothing}
use Rattle.worker_core.proofs.PipeLists.{item_in}
use Rattle.superstep.specs.Outer.{IsServedNode}
use Rattle.superstep.proofs.Making.{all_made, below_next, found_here, keeps_both, none_made, up_to_next}
use Rattle.superstep.proofs.outer.make_outer.Goals as goal

pub nodes-init : goal.nodes-init
nodes-init g c = record {
  sound = c.requires.sound;
  keeps = kept_nothing g.D.Spill.told c.args.worker.now _ _;
  later = omega arith;
  below = λ inputs. tt;
  rows = λ inputs h. none_made g.D.Spill.told c.args.plan.now inputs c.args.worker.now c.requires.rules.0 h;
}

pub make_node-requires-clause-found : goal.make_node-requires-clause-found
make_node-requires-clause-found g c =
    let e = c.as_slice-node-items.ensures in
    let low : c.nodes.node-index < length c.args.plan.now.nodes = omega (arith, c.nodes-test.true, ap length e) in
    let is = item_in c.as_slice-node-items.result.now c.args.plan.now.nodes e c.nodes.node-index c.node-item.result c.nodes-test.true c.node-item.is in
    found_here g.D.Spill.told c.args.plan.now c.requires.rules.0 c.requires.rules.1 [] c.nodes.node-index c.node-item.result low is (subst IsServedNode (is c.node-item.result) (c.requires.served c.nodes.node-index c.node-item.result low))

pub returns-in-Err-clause-keeps : goal.returns-in-Err-clause-keeps
returns-in-Err-clause-keeps g c = keeps_both g.D.Spill.told c.args.plan.now c.args.worker.now c.nodes.worker c.make_node.new.worker c.nodes.invariant.keeps c.make_node.ensures.keeps

pub nodes-preserved : goal.nodes-preserved
nodes-preserved g c =
    let e = c.as_slice-node-items.ensures in
    let low : c.nodes.node-index < length c.args.plan.now.nodes = omega (arith, c.nodes-test.true, ap length e) in
    let is = item_in c.as_slice-node-items.result.now c.args.plan.now.nodes e c.nodes.node-index c.node-item.result c.nodes-test.true c.node-item.is in
    let served = subst IsServedNode (is c.node-item.result) (c.requires.served c.nodes.node-index c.node-item.result low) in
    record {
      sound = c.in-Ok.ensures.sound;
      keeps = keeps_both g.D.Spill.told c.args.plan.now c.args.worker.now c.nodes.worker c.make_node.new.worker c.nodes.invariant.keeps c.make_node.ensures.keeps;
      later = omega (arith, c.nodes.invariant.later, c.make_node.ensures.cause.cause.later);
      below = λ inputs. below_next g.D.Spill.told c.args.plan.now c.requires.rules.0 c.requires.rules.1 inputs c.nodes.node-index c.node-item.result low is served (c.nodes.invariant.below inputs);
      rows = λ inputs h.
          up_to_next g.D.Spill.told c.args.plan.now c.requires.rules.0 c.requires.rules.1 inputs c.nodes.node-index c.node-item.result low is served c.nodes.worker c.make_node.new.worker (c.nodes.invariant.rows inputs h) c.in-Ok.ensures.made (c.nodes.invariant.below inputs);
    }

pub returns-clause-rows : goal.returns-clause-rows
returns-clause-rows g c = λ inputs h.
    all_made g.D.Spill.told c.args.plan.now inputs c.nodes.node-index c.nodes.worker c.requires.rules.0 c.requires.served (omega (arith, c.nodes-test.false, c.nodes.auto.node-index-end, ap length c.as_slice-node-items.ensures)) (c.nodes.invariant.rows inputs h)
