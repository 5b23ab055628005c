use Rattle.std.proofs.Common.{◌≡◌, ◌+◌, None}
use Rattle.page_feed.specs.Feeding.{PutsAway}
use Rattle.page_feed.proofs.feed.Feed.put_all_away.Given as goal

abbrev pub invariant-pages : goal.invariant-pages
invariant-pages l = record {
  puts : PutsAway l.fn.self l.self;
  none : l.self.shown ≡ None;
}

abbrev pub decreases-pages : goal.decreases-pages
decreases-pages l = l.self.of_kept + l.self.of_run
