-- At the end of the shorter record the lengths decide.
use Rattle.std.proofs.Common.{sym, ◌∙◌, ap, inl, inr, arith, length}
use Rattle.std.specs.Ordering.{nat_cmp}
use Rattle.paged_view.specs.Seen.{seen_in}
use Rattle.flow_types.proofs.TupleLemmas.{slice_cmp_done}
use Rattle.worked_records.proofs.samples.BytewiseRecordOrder.compare.Goals as goal
use Rattle.worked_records.proofs.samples.BytewiseRecordOrder.compare.Goals.{then-bytes-test+else-at-b_len, else-bytes-test}

pub returns : goal.returns
returns c =
    let a = seen_in c.args.a.now in
    let b = seen_in c.args.b.now in
    let inv = c.bytes.invariant in
    let done = slice_cmp_done nat_cmp a b c.bytes.at inv.left inv.right in
    c.cmp-2.ensures ∙ ap (λ n. nat_cmp n c.len-b_len.result) c.len-a_len.ensures ∙ ap (nat_cmp (length a)) c.len-b_len.ensures
    ∙ elim c.bytes-test.branch [
      | then-bytes-test+else-at-b_len w ↦ done (inr (omega (arith, w.if-at-b_len.false, c.len-b_len.ensures)))
      | else-bytes-test w ↦ done (inl (omega (arith, w.bytes-test.false, c.len-a_len.ensures)))
    ]
    ∙ sym inv.same
