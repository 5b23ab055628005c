use Rattle.std.proofs.Common.{sym, ◌∙◌, inl, inr}
use Rattle.flow_types.specs.Values.{value_cmp}
use Rattle.flow_types.proofs.TupleLemmas.{slice_cmp_done}
use Rattle.flow_types.proofs.row.compare_tuples.Goals as goal
use Rattle.flow_types.proofs.row.compare_tuples.Goals.{then-loop-i-test+else-i-b, else-loop-i-test}

pub returns : goal.returns
returns c =
    let inv = c.loop-i.invariant in
    let done = slice_cmp_done value_cmp c.args.a.now c.args.b.now c.loop-i.i inv.left inv.right in
    c.cmp.ensures ∙ elim c.loop-i-test.branch [ then-loop-i-test+else-i-b w ↦ done (inr w.if-i-b.false) | else-loop-i-test w ↦ done (inl w.loop-i-test.false) ] ∙ sym inv.same
