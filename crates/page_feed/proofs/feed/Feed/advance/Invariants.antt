use Rattle.std.proofs.Common.{◌≡◌, ◌≤◌, None}
use Rattle.page_feed.specs.Feeding.{GoesOn, pages_to_give}
use Rattle.page_feed.proofs.feed.Feed.advance.Given as goal

abbrev pub invariant-pages : goal.invariant-pages
invariant-pages g l = record {
  goes : GoesOn (g.D.Spill.told l.fn.disk) l.fn.self l.self;
  later : g.D.Spill.fault_count l.fn.disk ≤ g.D.Spill.fault_count l.disk;
  tells : g.D.Spill.told l.disk ≡ g.D.Spill.told l.fn.disk;
  counted : g.D.Spill.given l.disk ≡ g.D.Spill.given l.fn.disk;
  quiet : l.fn.self.run ≡ None → (l.disk ≡ l.fn.disk) × (l.self.run ≡ None);
}

abbrev pub decreases-pages : goal.decreases-pages
decreases-pages g l = pages_to_give l.self
