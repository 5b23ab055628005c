-- The pages that were passed and this one have room for the bytes.
use Rattle.std.proofs.Common.{arith, ap, length}
use Rattle.std.proofs.lemmas.Bool.{false≢true}
use Rattle.paged_view.proofs.PageLemmas.{length-bodies-passed}
use Rattle.paged_view.proofs.writer.are_short.Goals as goal

pub returns-then-left-space : goal.returns-then-left-space
returns-then-left-space c =
    let passed = length-bodies-passed _ _ _ _ c.loop-page.invariant.rest c.loop-page-test.true c.page-item.is in
    (λ no. absurd (false≢true no), λ less. absurd (omega (arith, passed, less, c.if-left-space.true, ap length c.body_of-space.ensures.value, c.loop-page.invariant.passed)))
