use Rattle.std.proofs.Common.{sym, ap, ◌∙◌, ◌+◌, drop, arith}
use Rattle.flow_model.specs.Algebra.{rows_at, given, source_numbers}
use Rattle.plain_eval.proofs.InputLemmas.{skip_step, pass_step}
use Rattle.plain_eval.proofs.env.input_at.Goals as goal
use Rattle.plain_eval.proofs.env.input_at.Goals.{then-is_source+else-place-inputs+else-node-number, else-is_source}

pub loop-node-preserved : goal.loop-node-preserved
loop-node-preserved c =
    let at = c.loop-node in
    let nodes = c.args.nodes.now in
    let inputs = c.args.inputs.now in
    let n = c.args.number in
    elim c.if-is_source.branch [
      | then-is_source+else-place-inputs+else-node-number w ↦ record {
        few = omega arith;
        same = at.invariant.same ∙ pass_step nodes inputs n at.node-index at.place c.node-item.result c.loop-node-test.true c.node-item.is (omega arith) (sym c.is_source.ensures ∙ w.if-is_source.true) w.if-node-number.false ∙ ap (λ q. rows_at (given (source_numbers (drop (at.node-index + 1) nodes)) (drop q inputs)) n) (sym w.place-is);
      }
      | else-is_source w ↦ record {
        few = omega arith;
        same = at.invariant.same ∙ skip_step nodes (drop at.place inputs) n at.node-index c.node-item.result c.loop-node-test.true c.node-item.is (sym c.is_source.ensures ∙ w.if-is_source.false) ∙ ap (λ q. rows_at (given (source_numbers (drop (at.node-index + 1) nodes)) (drop q inputs)) n) (sym w.place-is);
      }
    ]
