-- The pages that were passed and this one have the bytes.
use Rattle.std.proofs.Common.{◌∙◌, arith, refl, ap, length}
use Rattle.std.proofs.lemmas.List.{take_all}
use Rattle.paged_view.specs.Pages.{all_used_bytes}
use Rattle.paged_view.proofs.ReadingLemmas.{length-all_used_bytes-passed, length-unread, within_parts, reaches_end}
use Rattle.paged_view.proofs.reader.reaches.Goals as goal

pub returns-then-left-used : goal.returns-then-left-used
returns-then-left-used c =
    let passed = length-all_used_bytes-passed _ _ _ _ c.loop-page.invariant.rest c.loop-page-test.true c.page-item.is in
    (λ yes. omega (arith, passed, c.if-left-used.true, ap length c.used_bytes-used.ensures.value, c.loop-page.invariant.passed, length-unread c.args.pages.now.items c.args.place.page c.args.place.off), λ fits. refl)

pub returns : goal.returns
returns c =
    let ps = c.args.pages.now.items in
    let all = ap (λ qs. length (all_used_bytes qs)) (take_all c.loop-page.page-index _ c.loop-page-test.false ∙ c.loop-page.invariant.rest) in
    reaches_end c.loop-page.left _ c.args.place.off c.args.need _ (omega (arith, c.loop-page.invariant.passed, all)) (within_parts ps c.args.place.page c.args.place.off c.requires.within) (length-unread ps c.args.place.page c.args.place.off)
