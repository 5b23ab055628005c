-- The oldest page is spent exactly where the place is in a later one.
use Rattle.std.proofs.Common.{◌≡◌, drop, arith}
use Rattle.paged_view.proofs.ReadingLemmas.{not_spent, is_spent, within_rest, within_parts}
use Rattle.paged_view.proofs.reader.PageReader.spent.Goals as goal

pub returns-then-place-eq0-clause-some : goal.returns-then-place-eq0-clause-some
returns-then-place-eq0-clause-some c =
    not_spent c.self.inside.room c.self.inside.page c.self.inside.off c.self.inside.pending c.place_at-place.result.page c.place_at-place.result.off _ c.self.inside.pages.items c.args.self.now c.self.view_is c.place_at-place.ensures.same c.if-place-eq0.true c.place_at-place.ensures.byte (omega (arith, c.self.inside.pages.ok.0))

pub returns-clause-some : goal.returns-clause-some
returns-clause-some c =
    is_spent c.self.inside.room c.self.inside.page c.self.inside.off c.self.inside.pending c.place_at-place.result.page c.place_at-place.result.off c.self.inside.pages.items c.args.self.now c.self.view_is c.place_at-place.ensures.same (omega (arith, c.if-place-eq0.false)) (omega (arith, c.place_at-place.ensures.among, c.self.inside.pages.ok.0))

pub invariant_of-self : goal.invariant_of-self
invariant_of-self c =
    let items : c.remove.new.self.items ≡ drop 1 c.self.inside.pages.items = c.remove.ensures.items in
    let within = within_rest c.self.inside.pages.items c.place_at-place.result.page c.place_at-place.result.off (omega (arith, c.if-place-eq0.false)) c.place_at-place.ensures.within in
    rw items (record {
      fits = omega (arith, c.remove.ensures.len, c.self.invariant.fits);
      reserved = omega (arith, c.remove.ensures.capacity, c.self.invariant.reserved);
      among = omega (arith, c.remove.ensures.len, c.place_at-place.ensures.among, c.if-place-eq0.false);
      within = within;
      whole = omega (arith, within_parts (drop 1 c.self.inside.pages.items) _ _ within);
      small = omega (arith, c.place_at-place.ensures.small);
    })
