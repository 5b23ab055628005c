-- The place moved past a record.
use Rattle.std.proofs.Common.{ℕ, ◌+◌, refl, arith}
use Rattle.paged_view.proofs.ReadingLemmas.{moved_is, whole_behind, within_parts}
use Rattle.paged_view.proofs.reader.PageReader.advance.Goals as goal

pub returns-clause-ok : goal.returns-clause-ok
returns-clause-ok c =
    moved_is c.self.inside.room c.self.inside.page c.self.inside.off c.self.inside.pending c.place_at-start.result.page c.place_at-start.result.off c.place_at-place.result.page c.place_at-place.result.off c.in-Some-whole_len.len c.self.inside.pages.items c.args.self.now c.self.view_is c.place_at-start.ensures.same c.place_at-place.ensures.same c.in-Some-whole_len.ensures.whole.1

pub invariant_of-self-2 : goal.invariant_of-self-2
invariant_of-self-2 c =
    let ps = c.self.inside.pages.items in
    let place = c.place_at-place.result in
    record {
      fits = c.self.invariant.fits;
      reserved = c.self.invariant.reserved;
      among = c.place_at-place.ensures.among;
      within = c.place_at-place.ensures.within;
      whole = whole_behind ps c.place_at-start.result.page c.place_at-start.result.off place.page place.off c.in-Some-whole_len.len c.place_at-place.ensures.same c.in-Some-whole_len.ensures.whole.0 c.in-Some-whole_len.ensures.whole.1 (within_parts ps place.page place.off c.place_at-place.ensures.within);
      small = omega (arith, c.place_at-place.ensures.small, c.in-Some-whole_len.ensures.small);
    }

pub returns-in-Some-clause-ok : goal.returns-in-Some-clause-ok
returns-in-Some-clause-ok c =
    let page = c.self.inside.page in
    let at = c.self.inside.off + c.self.inside.pending in
    moved_is c.self.inside.room page c.self.inside.off c.self.inside.pending page at page (at + 4) c.in-Some.len c.self.inside.pages.items c.args.self.now c.self.view_is refl refl c.in-Some.ensures.here.size
