use Rattle.std.proofs.Common.{◌≡◌, ◌-◌, false, sym, ap, ◌∙◌, arith}
use Rattle.flow_model.specs.Rows.{is_nothing}
use Rattle.flow_model.specs.Algebra.{Env, given, source_numbers, delta_next, DeltaState}
use Rattle.plain_eval.proofs.IterationLemmas.{delta_turn, delta_end}
use Rattle.plain_eval.proofs.iterate.delta_rows.Goals as goal

pub returns-then-is_last-clause-rows : goal.returns-then-is_last-clause-rows
returns-then-is_last-clause-rows c =
    let a = c.args in
    let d = a.delta.now in
    let at = c.loop-left in
    let inputs : Env = given (source_numbers a.nodes.now) a.inputs.now in
    let last = at.invariant.same ∙ delta_end inputs a.nodes.now a.made.now.items a.number d.next d.key.now d.order.now d.merge d.delta at.left at.state (sym c.is_last.ensures ∙ c.if-is_last.true) in
    c.into_entries.ensures ∙ sym (ap (λ (s : DeltaState). s.entries) last)

pub loop-left-preserved : goal.loop-left-preserved
loop-left-preserved c =
    let a = c.args in
    let d = a.delta.now in
    let env = a.made.now.items in
    let inputs : Env = given (source_numbers a.nodes.now) a.inputs.now in
    let at = c.loop-left in
    let onward : Env → DeltaState = λ e. delta_next inputs a.nodes.now e a.number d.key.now d.order.now d.merge d.delta d.next at.state in
    let some : is_nothing at.state.workset ≡ false = sym c.is_last.ensures ∙ c.if-is_last.false in
    let step = c.in_ok-state-2.ensures.state ∙ ap onward at.invariant.stays in
    record {
      stays = c.in_ok-state-2.ensures.made ∙ at.invariant.stays;
      same = at.invariant.same ∙ delta_turn inputs a.nodes.now env a.number d.next d.key.now d.order.now d.merge d.delta at.left (at.left - 1) at.state c.in_ok-state-2.state (omega (arith, c.loop-left-test.true)) some step;
    }
