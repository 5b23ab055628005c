-- A stream that begins with a run.
use Rattle.std.proofs.Common.{◌≡◌, ℕ, zero, suc, ◌+◌, ◌-◌, ◌<◌, ◌≤◌, Bool, List, [], ◌∷◌, ◌++◌, length, map, cond, not, ◌==◌, true, Result, Ok, Err, IfOk, Option, Some, None, refl, sym, ap, ◌∙◌, subst, arith, append-nil}
use Rattle.segment_core.specs.Segments.{SegmentView, count_other_size, segment_sum}
use Rattle.flow_outside.specs.Blocks.{Blocks}
use Rattle.paged_view.specs.Pages.{used_bytes}
use Rattle.spool.specs.Headers.{as_page}
use Rattle.spool.specs.Reading.{IsReadable}
use Rattle.spool.specs.Runs.{joined, pages_at}
use Rattle.spool.specs.declared.place.RunReader.{RunReader}
use Rattle.spool.specs.declared.run.Run.{Run}
use Rattle.page_feed.specs.Feeds.{FeedView, HasLeft, stopped}
use Rattle.page_feed.specs.Reach.{IsWithinReach, behind}
use Rattle.page_feed.specs.RunStreams.{HoldsRun}
use Rattle.page_feed.proofs.ReachLemmas.{reach_first}

-- the feed that begins with a run alone
abbrev begun : (room reach : ℕ) → RunReader → List SegmentView → FeedView
begun room reach reader blank = record (stopped room reach) { ahead = []; run = Some reader; open_page = []; blank = blank }

abbrev run_sizes : Blocks → Run → List ℕ
run_sizes m run = map (λ page. length (used_bytes (as_page page))) (pages_at m run.first run.pages)

left_begun : (m : Blocks) (size room reach : ℕ) (run : Run) (reader : RunReader) (blank : List SegmentView) (rows : List (List ℕ)) → reader.at ≡ run.first → reader.left ≡ run.pages
    → IsReadable m size reader → count_other_size size blank ≡ 0 → HoldsRun m size reach run rows → HasLeft m (begun room reach reader blank) rows
left_begun m size room reach run reader blank rows at left readable fits holds =
    let pages : pages_at m reader.at reader.left ≡ pages_at m run.first run.pages = ap (λ b. pages_at m b reader.left) at ∙ ap (λ n. pages_at m run.first n) left in
    let within : IsWithinReach reach (behind 0 (run_sizes m run ++ [])) rows =
    reach_first reach (run_sizes m run ++ []) rows (subst (λ ns. IsWithinReach reach ns rows) (sym (append-nil (run_sizes m run))) holds.within) in
    record {
      size = size;
      sized = fits;
      run = readable;
      text = ap (λ ps. joined ps ++ []) pages ∙ append-nil (joined (pages_at m run.first run.pages)) ∙ holds.bytes;
      lengths = holds.lengths;
      reach = subst (λ ps. IsWithinReach reach (behind 0 (map (λ page. length (used_bytes (as_page page))) ps ++ [])) rows) (sym pages) within;
    }

-- what segments of another size count
abbrev other_size : ℕ → ℕ → ℕ → ℕ
other_size size = λ _ n. cond (not (n == size)) 1 0

pub left_started : (m : Blocks) (size : ℕ) (old new : FeedView) (kept open_page : List SegmentView) (run : Run) (reader : RunReader) (p q : List SegmentView) (rows : List (List ℕ))
    → new ≡ record (stopped old.room old.reach) { ahead = kept; run = Some reader; open_page = open_page; blank = new.blank } → kept ≡ [] → open_page ≡ [] → reader.at ≡ run.first → reader.left ≡ run.pages
    → IsReadable m size reader → ((h : ℕ → ℕ → ℕ) → segment_sum h q + segment_sum h new.blank ≡ segment_sum h p) → count_other_size size p ≡ 0 → HoldsRun m size old.reach run rows → HasLeft m new rows
left_started m size old new kept open_page run reader p q rows is none_kept none_open at left readable moves fits holds =
    let all : segment_sum (other_size size) p ≡ 0 = fits in
    let none : count_other_size size new.blank ≡ 0 = omega (arith, moves (other_size size), all) in
    let begins : new ≡ begun old.room old.reach reader new.blank =
    is ∙ ap (λ ks. record (stopped old.room old.reach) { ahead = ks; run = Some reader; open_page = open_page; blank = new.blank }) none_kept
    ∙ ap (λ ls. record (stopped old.room old.reach) { ahead = []; run = Some reader; open_page = ls; blank = new.blank }) none_open in
    subst (λ f. HasLeft m f rows) (sym begins) (left_begun m size old.room old.reach run reader new.blank rows at left readable none holds)
