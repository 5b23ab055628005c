use Rattle.std.proofs.Common.{refl, rules}
use Rattle.page_feed.proofs.LeftLemmas.{away_join, away_nowhere}
use Rattle.page_feed.proofs.feed.Feed.put_all_away.Goals as goal

pub pages-init : goal.pages-init
pages-init c = record { puts = away_nowhere _ _ refl; none = c.requires }

pub pages-preserved : goal.pages-preserved
pages-preserved c = record {
  puts = away_join _ _ _ c.pages.invariant.puts (c.put_away.ensures.puts (search rules));
  none = c.put_away.ensures.none;
}
