-- Streams of runs. The rules are this project's own.
use Rattle.std.specs.Prelude.{◌≡◌, ◌^◌, ◌<◌, ℕ, All, List, [], length, map, Option, Some, None}
use Rattle.segment_core.specs.Segments.{SegmentView}
use Rattle.flow_outside.specs.Blocks.{Blocks}
use Rattle.flow_types.specs.Records.{frames}
use Rattle.paged_view.specs.Pages.{used_bytes}
use Rattle.spool.specs.Headers.{as_page}
use Rattle.spool.specs.Runs.{IsRun, joined, pages_at}
use Rattle.spool.specs.declared.run.Run.{Run}
use Rattle.page_feed.specs.Feeds.{FeedView, HasLeft, kept_in, open_page_in}
use Rattle.page_feed.specs.Reach.{IsWithinReach}

-- A run stands, and these are its records, in order: its pages' used bytes are theirs, framed, and none touches more pages
-- than the reach.
pub record HoldsRun (blocks : Blocks) (size reach : ℕ) (run : Run) (rows : List (List ℕ)) : Type 0 where
  pub stands : IsRun blocks size run
  pub bytes : joined (pages_at blocks run.first run.pages) ≡ frames rows
  pub lengths : All (λ row. length row < 2 ^ 32) rows
  pub within : IsWithinReach reach (map (λ page. length (used_bytes (as_page page))) (pages_at blocks run.first run.pages)) rows

-- By what the disk tells, these records are left to be read. Of a disk that doesn't tell none are known.
abbrev pub IsLeft : FeedView → Option Blocks → (rows : List (List ℕ)) → Type 0
IsLeft feed None rows = ⊥
IsLeft feed (Some blocks) rows = HasLeft blocks feed rows

-- What is true of every such stream: it holds no page but those that it read from the run.
pub record IsRunStream (feed : FeedView) (kept : List SegmentView) (kept_count : ℕ) (open_page : List SegmentView) (open_count : ℕ) : Type 0 where
  pub none_kept : kept ≡ []
  pub no_kept : kept_count ≡ 0
  pub none_open : open_page ≡ []
  pub no_open : open_count ≡ 0
  pub feed_kept : kept_in feed ≡ []
  pub feed_open : open_page_in feed ≡ []
