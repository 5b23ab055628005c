use Rattle.std.proofs.Common.{◌≡◌, true, is_some, sym, ◌∙◌}
use Rattle.flow_model.specs.Algebra.{Env, given, source_numbers}
use Rattle.plain_full.proofs.WalkLemmas.{walk-finds}
use Rattle.plain_full.proofs.fullness.first_of_nodes.Goals as goal

pub returns-then-is_some : goal.returns-then-is_some
returns-then-is_some c =
    let a = c.args in
    let at = c.loop-node in
    let inputs : Env = given (source_numbers a.nodes.now) a.inputs.now in
    let some : is_some c.in_ok-first.first ≡ true = sym c.is_some.ensures ∙ c.if-is_some.true in
    walk-finds a.shares.workers a.shares.have inputs a.nodes.now c.in_ok-first.first at.made.items a.nodes.now at.node-index c.node-item.result some c.loop-node-test.true c.node-item.is c.if-node-eq0.true c.in_ok-first.ensures.first ∙ sym at.invariant
