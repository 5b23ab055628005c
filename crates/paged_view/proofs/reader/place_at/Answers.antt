-- A page was passed.
use Rattle.std.proofs.Common.{◌∙◌, arith}
use Rattle.paged_view.proofs.ReadingLemmas.{unread_past, within_past}
use Rattle.paged_view.proofs.reader.place_at.Goals as goal

pub loop-page-preserved : goal.loop-page-preserved
loop-page-preserved c =
    let ps = c.args.pages.now.items in
    record {
      same = unread_past ps c.loop-page.page c.loop-page.off c.index.result.now c.used_bytes-used.result.now (omega arith) c.index.ensures c.used_bytes-used.ensures.value (omega arith) ∙ c.loop-page.invariant.same;
      among = omega arith;
      within = within_past ps c.loop-page.page c.loop-page.off c.index.result.now c.used_bytes-used.result.now (omega arith) c.index.ensures c.used_bytes-used.ensures.value c.loop-page.invariant.within;
      later = omega arith;
    }
