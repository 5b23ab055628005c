use Rattle.std.proofs.Common.{◌≡◌, ap, ◌∙◌, arith}
use Rattle.flow_model.specs.Algebra.{Env, given, source_numbers, rows_at}
use Rattle.flow_model.specs.Solutions.{merged}
use Rattle.plain_eval.proofs.EnvLemmas.{kept-superstep}
use Rattle.plain_eval.proofs.IterationLemmas.{next_is, solution}
use Rattle.plain_eval.proofs.delta.next_state.Goals as goal

pub returns-clause-state : goal.returns-clause-state
returns-clause-state c =
    let a = c.args in
    let d = a.delta.now in
    let inputs : Env = given (source_numbers a.nodes.now) a.inputs.now in
    let made = c.superstep.new.made.items in
    let held = c.in_ok-held.held in
    let own = c.in_ok-held.ensures ∙ ap (solution d.key.now) c.into_parts-entries.ensures.entries in
    let deltas : c.rows_at-deltas.result.now ≡ rows_at made d.delta = c.rows_at-deltas.ensures ∙ ap (λ m. rows_at m d.delta) c.as_slice.ensures.value in
    let entries : c.in_ok-entries.entries.items ≡ merged d.key.now d.order.now d.merge held.entries (rows_at made d.delta) = c.in_ok-entries.ensures ∙ ap (λ e. merged d.key.now d.order.now d.merge e c.rows_at-deltas.result.now) c.entries.ensures ∙ ap (merged d.key.now d.order.now d.merge held.entries) deltas in
    c.of.ensures ∙ next_is inputs a.nodes.now a.made.now.items a.number d.next d.key.now d.order.now d.merge d.delta a.state held _ _ _ made c.into_parts-entries.ensures.workset own c.in_ok-superstep.ensures entries c.in_ok-workset.ensures.rows

pub returns-clause-made : goal.returns-clause-made
returns-clause-made c =
    let a = c.args in
    let inputs : Env = given (source_numbers a.nodes.now) a.inputs.now in
    kept-superstep inputs c.in_ok-held.held a.nodes.now a.made.now.items a.number _ c.superstep.new.made.items c.take_rows.new.made.items c.len-kept.result (omega arith) c.in_ok-superstep.ensures c.in_ok-workset.ensures.rest
