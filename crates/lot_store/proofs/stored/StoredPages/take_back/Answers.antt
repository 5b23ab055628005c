use Rattle.std.proofs.Common.{length, ap, arith}
use Rattle.page_feed.specs.Feeds.{kept_in, open_page_in}
use Rattle.lot_store.specs.Stores.{PagesView}
use Rattle.lot_store.proofs.StoreLemmas.{store_taken}
use Rattle.lot_store.proofs.stored.StoredPages.take_back.Goals as goal

pub invariant_of-self : goal.invariant_of-self
invariant_of-self c =
    store_taken c.self.inside.kept.items (kept_in c.args.feed.now) c.take_pages.new.kept.items c.self.inside.open_page.items (open_page_in c.args.feed.now) c.take_pages.new.open_page.items
    _ _ _ _ _ _ _ _ _ _ c.self.invariant
    (omega (arith, c.self.inside.kept.ok.0)) (omega (arith, c.self.inside.open_page.ok.0))
    (λ more. omega (arith, c.requires.whole more, ap (λ (v : PagesView). length v.kept) c.self.view_is, ap (λ (v : PagesView). length v.open_page) c.self.view_is))
    (omega (arith, c.requires.fits, ap (λ (v : PagesView). v.room) c.self.view_is))
    c.requires.filled c.requires.one c.requires.some c.requires.within
    c.take_pages.ensures.kept c.take_pages.ensures.kept_len c.take_pages.ensures.kept_capacity c.take_pages.ensures.open_page c.take_pages.ensures.last_len c.take_pages.ensures.last_capacity
