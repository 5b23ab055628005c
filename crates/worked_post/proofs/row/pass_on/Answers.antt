use Rattle.std.proofs.Common.{ℕ, length, ap, arith}
use Rattle.worked_post.proofs.row.pass_on.Goals as goal

pub returns-clause-swaps : goal.returns-clause-swaps
returns-clause-swaps g c = λ h.
    let a = ap (λ (n : ℕ). h n (length c.mark.new.page.bytes)) c.mark.ensures.id in
    let b = ap (h c.args.page.id) c.mark.ensures.len in
    omega (arith, a, b, c.try_put-spare.ensures.swaps h, c.try_put-spare-2.ensures.swaps h, c.try_get-page.ensures.swaps h, c.try_get-page-2.ensures.swaps h)
