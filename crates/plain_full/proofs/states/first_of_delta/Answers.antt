use Rattle.std.proofs.Common.{◌≡◌, ◌+◌, ◌-◌, Bool, true, not, is_some, option_map, sym, ap, subst, ◌∙◌, arith}
use Rattle.std.specs.Prelude.{IfOk, Option}
use Rattle.flow_model.specs.Rows.{is_nothing}
use Rattle.flow_model.specs.Algebra.{Env, given, source_numbers, DeltaState, delta_next}
use Rattle.flow_model.specs.Full.{Demand}
use Rattle.plain_full.specs.Demands.{seen, first_of_state}
use Rattle.plain_full.proofs.FindLemmas.{none_found, first_on-found, first_on-end, first_on-last, first_on-turn}
use Rattle.plain_full.proofs.states.first_of_delta.Goals as goal

pub returns-then-is_some-clause-first : goal.returns-then-is_some-clause-first
returns-then-is_some-clause-first c =
    let a = c.args in
    let d = a.delta.now in
    let at = c.loop-step in
    let inputs : Env = given (source_numbers a.nodes.now) a.inputs.now in
    let goes : DeltaState → Bool = λ s. not (is_nothing s.workset) in
    let onward : DeltaState → DeltaState = delta_next inputs a.nodes.now a.made.now.items a.number d.key.now d.order.now d.merge d.delta d.next in
    let here : option_map seen c.in_ok-first.first ≡ first_of_state a.shares.workers a.shares.have a.number d.key.now at.step at.state.entries = c.in_ok-first.ensures ∙ ap (first_of_state a.shares.workers a.shares.have a.number d.key.now at.step) c.entries.ensures in
    let some : is_some c.in_ok-first.first ≡ true = sym c.is_some.ensures ∙ c.if-is_some.true in
    first_on-found a.shares.workers a.shares.have a.number d.key.now goes onward c.in_ok-first.first at.step (d.most - at.step) at.state some here ∙ sym at.invariant.same

pub returns-then-is_last-clause-first : goal.returns-then-is_last-clause-first
returns-then-is_last-clause-first c =
    let a = c.args in
    let d = a.delta.now in
    let at = c.loop-step in
    let inputs : Env = given (source_numbers a.nodes.now) a.inputs.now in
    let goes : DeltaState → Bool = λ s. not (is_nothing s.workset) in
    let onward : DeltaState → DeltaState = delta_next inputs a.nodes.now a.made.now.items a.number d.key.now d.order.now d.merge d.delta d.next in
    let here : option_map seen c.in_ok-first.first ≡ first_of_state a.shares.workers a.shares.have a.number d.key.now at.step at.state.entries = c.in_ok-first.ensures ∙ ap (first_of_state a.shares.workers a.shares.have a.number d.key.now at.step) c.entries.ensures in
    let none = none_found c.in_ok-first.first (first_of_state a.shares.workers a.shares.have a.number d.key.now at.step at.state.entries) (sym c.is_some.ensures ∙ c.if-is_some.false) here in
    let ends = first_on-last a.shares.workers a.shares.have a.number d.key.now goes onward at.step (d.most - at.step) at.state none (ap not (sym c.is_last.ensures ∙ c.if-is_last.true)) in
    sym (at.invariant.same ∙ ends)

pub loop-step-preserved : goal.loop-step-preserved
loop-step-preserved c =
    let a = c.args in
    let d = a.delta.now in
    let at = c.loop-step in
    let inputs : Env = given (source_numbers a.nodes.now) a.inputs.now in
    let goes : DeltaState → Bool = λ s. not (is_nothing s.workset) in
    let next_of : Env → DeltaState → DeltaState = λ e. delta_next inputs a.nodes.now e a.number d.key.now d.order.now d.merge d.delta d.next in
    let here : option_map seen c.in_ok-first.first ≡ first_of_state a.shares.workers a.shares.have a.number d.key.now at.step at.state.entries = c.in_ok-first.ensures ∙ ap (first_of_state a.shares.workers a.shares.have a.number d.key.now at.step) c.entries.ensures in
    let none = none_found c.in_ok-first.first (first_of_state a.shares.workers a.shares.have a.number d.key.now at.step at.state.entries) (sym c.is_some.ensures ∙ c.if-is_some.false) here in
    let on : not (is_nothing at.state.workset) ≡ true = ap not (sym c.is_last.ensures ∙ c.if-is_last.false) in
    let step = c.in_ok-state-2.ensures.state ∙ ap (λ e. next_of e at.state) at.invariant.stays in
    record {
      stays = c.in_ok-state-2.ensures.made ∙ at.invariant.stays;
      within = omega arith;
      same = at.invariant.same ∙ first_on-turn a.shares.workers a.shares.have a.number d.key.now goes (next_of a.made.now.items) at.step (d.most - at.step) (d.most - (at.step + 1)) at.state c.in_ok-state-2.state (omega arith) none on step;
    }

pub returns-clause-first : goal.returns-clause-first
returns-clause-first c =
    let a = c.args in
    let d = a.delta.now in
    let at = c.loop-step in
    let inputs : Env = given (source_numbers a.nodes.now) a.inputs.now in
    let goes : DeltaState → Bool = λ s. not (is_nothing s.workset) in
    let onward : DeltaState → DeltaState = delta_next inputs a.nodes.now a.made.now.items a.number d.key.now d.order.now d.merge d.delta d.next in
    let ends = first_on-end a.shares.workers a.shares.have a.number d.key.now goes onward at.step (d.most - at.step) at.state (omega arith) in
    subst (λ (o : Option Demand). IfOk c.first_of_state-2.result (λ first. option_map seen first ≡ o))
    (ap (first_of_state a.shares.workers a.shares.have a.number d.key.now at.step) c.entries-2.ensures ∙ sym (at.invariant.same ∙ ends))
    c.first_of_state-2.ensures
