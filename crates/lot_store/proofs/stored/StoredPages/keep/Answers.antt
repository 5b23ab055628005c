use Rattle.std.proofs.Common.{◌<◌, All, length, ap, subst, sym, arith}
use Rattle.std.proofs.lemmas.List.{length-take-le}
use Rattle.std.proofs.lemmas.List.Elements.{All-push}
use Rattle.paged_view.specs.Pages.{body, used_bytes, used}
use Rattle.lot_store.specs.Stores.{PagesView}
use Rattle.lot_store.proofs.stored.StoredPages.keep.Goals as goal

pub invariant_of-self : goal.invariant_of-self
invariant_of-self c = record {
  filled = subst (All (λ page. 0 < length (used_bytes page))) (sym c.push_reserved.ensures.items)
      (All-push (λ page. 0 < length (used_bytes page)) c.self.inside.kept.items c.args.page c.self.invariant.filled (omega (arith, c.requires.some, length-take-le (used c.args.page) (body c.args.page) c.requires.within)));
  fits = omega (arith, c.push_reserved.ensures.len, c.self.inside.kept.ok.0, ap (λ (v : PagesView). length v.kept) c.self.view_is, ap (λ (v : PagesView). v.room) c.self.view_is, c.requires.fits);
  reserved = omega (arith, c.push_reserved.ensures.capacity, c.self.invariant.reserved);
  one = c.self.invariant.one;
  place = c.self.invariant.place;
  some = c.self.invariant.some;
  within = c.self.invariant.within;
  begun = c.self.invariant.begun;
}
