use Rattle.std.proofs.Common.{◌≡◌, ◌-◌, sym, ap, ◌∙◌, arith}
use Rattle.flow_model.specs.Solutions.{no_solution}
use Rattle.flow_model.specs.Algebra.{Env, given, source_numbers, superstep, has_ended, BulkState}
use Rattle.plain_eval.proofs.EnvLemmas.{kept-superstep}
use Rattle.plain_eval.proofs.IterationLemmas.{bulk_turn, bulk_end, bulk_state, bulk_last}
use Rattle.plain_eval.proofs.iterate.bulk_rows.Goals as goal

pub returns-then-ended-clause-rows : goal.returns-then-ended-clause-rows
returns-then-ended-clause-rows c =
    let a = c.args in
    let env = a.made.now.items in
    let inputs : Env = given (source_numbers a.nodes.now) a.inputs.now in
    let made = c.superstep.new.made.items in
    let at = c.loop-left in
    let step : made ≡ superstep inputs a.nodes.now no_solution env a.number at.rows.items = c.in_ok-superstep.ensures ∙ ap (λ h. superstep inputs a.nodes.now h at.made.items a.number at.rows.items) c.nothing-held.ensures ∙ ap (λ e. superstep inputs a.nodes.now no_solution e a.number at.rows.items) at.invariant.stays in
    let ended : c.has_ended-ended.result ≡ has_ended made a.bulk.until = c.has_ended-ended.ensures ∙ ap (λ m. has_ended m a.bulk.until) c.as_slice-in-loop-left.ensures.value in
    let turn = bulk_turn inputs a.nodes.now env a.number a.bulk.next a.bulk.until at.left (at.left - 1) at.rows.items c.in_ok-rows-2.rows.items c.has_ended-ended.result made (omega (arith, c.loop-left-test.true)) step ended c.in_ok-rows-2.ensures.rows in
    sym (ap (λ (s : BulkState). s.rows) (at.invariant.same ∙ turn ∙ bulk_end inputs a.nodes.now env a.number a.bulk.next a.bulk.until (at.left - 1) c.in_ok-rows-2.rows.items c.has_ended-ended.result c.if-ended.true))

pub returns-then-ended-clause-made : goal.returns-then-ended-clause-made
returns-then-ended-clause-made c =
    let a = c.args in
    let env = a.made.now.items in
    let inputs : Env = given (source_numbers a.nodes.now) a.inputs.now in
    let made = c.superstep.new.made.items in
    let at = c.loop-left in
    let step : made ≡ superstep inputs a.nodes.now no_solution env a.number at.rows.items = c.in_ok-superstep.ensures ∙ ap (λ h. superstep inputs a.nodes.now h at.made.items a.number at.rows.items) c.nothing-held.ensures ∙ ap (λ e. superstep inputs a.nodes.now no_solution e a.number at.rows.items) at.invariant.stays in
    kept-superstep inputs no_solution a.nodes.now env a.number at.rows.items made c.take_rows.new.made.items c.len-kept.result (omega arith) step c.in_ok-rows-2.ensures.rest

pub loop-left-preserved : goal.loop-left-preserved
loop-left-preserved c =
    let a = c.args in
    let env = a.made.now.items in
    let inputs : Env = given (source_numbers a.nodes.now) a.inputs.now in
    let made = c.superstep.new.made.items in
    let at = c.loop-left in
    let step : made ≡ superstep inputs a.nodes.now no_solution env a.number at.rows.items = c.in_ok-superstep.ensures ∙ ap (λ h. superstep inputs a.nodes.now h at.made.items a.number at.rows.items) c.nothing-held.ensures ∙ ap (λ e. superstep inputs a.nodes.now no_solution e a.number at.rows.items) at.invariant.stays in
    let ended : c.has_ended-ended.result ≡ has_ended made a.bulk.until = c.has_ended-ended.ensures ∙ ap (λ m. has_ended m a.bulk.until) c.as_slice-in-loop-left.ensures.value in
    let turn = bulk_turn inputs a.nodes.now env a.number a.bulk.next a.bulk.until at.left (at.left - 1) at.rows.items c.in_ok-rows-2.rows.items c.has_ended-ended.result made (omega (arith, c.loop-left-test.true)) step ended c.in_ok-rows-2.ensures.rows in
    record {
      stays = kept-superstep inputs no_solution a.nodes.now env a.number at.rows.items made c.take_rows.new.made.items c.len-kept.result (omega arith) step c.in_ok-rows-2.ensures.rest;
      same = at.invariant.same ∙ turn ∙ ap (λ b. bulk_last inputs a.nodes.now env a.number a.bulk.next a.bulk.until (at.left - 1) (bulk_state c.in_ok-rows-2.rows.items b)) c.if-ended.false;
    }
