-- Lemmas on the record that is shown next.
use Rattle.std.proofs.Common.{◌≡◌, ℕ, suc, ◌+◌, ◌-◌, ◌<◌, ◌≤◌, true, List, [], ◌∷◌, ◌++◌, length, Option, Some, sym, ap, ◌∙◌, subst, arith, append_assoc, length-append, length-drop}
use Rattle.std.proofs.lemmas.List.{append_cancel_left}
use Rattle.segment_core.specs.Segments.{count_other_size, segment_sum}
use Rattle.flow_outside.specs.Blocks.{Blocks}
use Rattle.flow_outside.specs.Told.{IfTold}
use Rattle.flow_types.specs.Records.{framed, frames}
use Rattle.paged_view.specs.Pages.{all_used_bytes}
use Rattle.paged_view.specs.Reading.{HasRecord, after_first, first_record, moved, size_of}
use Rattle.paged_view.specs.RecordLaws.{ReadsFirst}
use Rattle.paged_view.specs.Streams.{Advances}
use Rattle.paged_view.proofs.RecordLemmas.{length-framed, reads_first}
use Rattle.spool.specs.Runs.{joined}
use Rattle.page_feed.specs.Reach.{IsWithinReach, behind, sizes_of}
use Rattle.page_feed.specs.Feeds.{FeedView, HasBlockLeft, HasLeft, IsLeftReadable, kept_in, open_page_in, lent, most_left, pages_left, sizes_left}
use Rattle.page_feed.specs.Feeding.{GoesOn}
use Rattle.page_feed.proofs.ReachLemmas.{behind-behind, sizes_read}
use Rattle.page_feed.proofs.LeftLemmas.{told_map}

-- the feed that moved past the next record in its reader and shows it
abbrev pub showing : FeedView → FeedView
showing b = record b { reader = moved b.reader; shown = Some (first_record b.reader.text) }

-- what stands behind the text in the reader
abbrev rest_of : Blocks → FeedView → List ℕ
rest_of m f = all_used_bytes f.ahead ++ (joined (pages_left m f.run) ++ all_used_bytes f.open_page)

length-after : (text : List ℕ) → HasRecord text → length (after_first text) < length text
length-after text has = omega (arith, has, length-drop (4 + size_of text) text)

-- The record that is shown is the first one that was left, and the others are left.
shows_first : (m : Blocks) (b : FeedView) (row : List ℕ) (rows : List (List ℕ)) → HasRecord b.reader.text → length b.reader.text ≤ length (all_used_bytes b.reader.pages) → HasLeft m b (row ∷ rows) → (Some (first_record b.reader.text) ≡ Some row) × HasLeft m (showing b) rows
shows_first m b row rows has within left =
    let text : List ℕ = b.reader.text in
    let reads : ReadsFirst text row = reads_first text (rest_of m b) row (frames rows) (left.lengths 0 [] (omega arith)) left.text in
    let whole : 4 + length row ≤ length text = reads.whole.0 has in
    let joined_again : framed row ++ after_first text ≡ text = reads.rest has in
    let count : length (after_first text) + (4 + length row) ≡ length text = omega (arith, ap length joined_again, length-append (framed row) (after_first text), length-framed row) in
    let taken : length (all_used_bytes b.reader.pages) - length (after_first text) ≡ length (all_used_bytes b.reader.pages) - length text + (4 + length row) = omega (arith, count, within, whole) in
    let all : List ℕ = sizes_of b.reader.pages ++ (sizes_of b.ahead ++ (sizes_read (pages_left m b.run) ++ sizes_of b.open_page)) in
    let sizes : sizes_left m (showing b) ≡ behind (4 + length row) (sizes_left m b) = ap (λ n. behind n all) taken ∙ sym (behind-behind (4 + length row) (length (all_used_bytes b.reader.pages) - length text) all) in (
      ap Some (reads.first has),
      record {
        size = left.size;
        sized = left.sized;
        run = left.run;
        text = append_cancel_left (framed row) (after_first text ++ rest_of m b) (frames rows)
            (sym (append_assoc (framed row) (after_first text) (rest_of m b)) ∙ ap (λ xs. xs ++ rest_of m b) joined_again ∙ left.text);
        lengths = λ i d low. left.lengths (suc i) d (omega (arith, low));
        reach = subst (λ xs. IsWithinReach b.reach xs rows) (sym sizes) left.reach.1;
      },
    )

shows_at : (m : Blocks) (b : FeedView) (rows : List (List ℕ)) → HasRecord b.reader.text → length b.reader.text ≤ length (all_used_bytes b.reader.pages) → HasLeft m b rows → Advances rows true (Some (first_record b.reader.text)) (HasLeft m (showing b))
shows_at m b [] has within left =
    absurd (omega (arith, has, ap length left.text, length-append b.reader.text (rest_of m b)))
shows_at m b (row ∷ rows) has within left = shows_first m b row rows has within left

-- What an advance says where it shows a record: it went on from `before` to a feed that had one in its reader.
pub record IsShown (told : Option Blocks) (before after : FeedView) : Type 0 where
  pub room : after.room ≡ before.room
  pub reach : after.reach ≡ before.reach
  pub kept : kept_in after ≡ kept_in before
  pub open_page : open_page_in after ≡ open_page_in before
  pub weights : (h : ℕ → ℕ → ℕ) → segment_sum h (lent after) ≡ segment_sum h (lent before)
  pub less : most_left after < most_left before
  pub rows : IfTold told (λ blocks. (rows : List (List ℕ)) → HasLeft blocks before rows → Advances rows true after.shown (HasLeft blocks after))
  pub among : IfTold told (λ blocks. (block : ℕ) → HasBlockLeft blocks after.run block → HasBlockLeft blocks before.run block)
  pub readable : IfTold told (λ blocks. (size : ℕ) → count_other_size size (lent before) ≡ 0
      → IsLeftReadable blocks size before.run → IsLeftReadable blocks size after.run)

shows_next_at : (t : Option Blocks) (a b : FeedView) → GoesOn t a b → HasRecord b.reader.text → length b.reader.text ≤ length (all_used_bytes b.reader.pages) → IsShown t a (showing b)
shows_next_at t a b goes has within = record {
  room = goes.room;
  reach = goes.reach;
  kept = goes.kept;
  open_page = goes.open_page;
  weights = goes.weights;
  less = omega (arith, goes.less, length-after b.reader.text has);
  rows = told_map t (λ m. (rows : List (List ℕ)) → HasLeft m a rows → HasLeft m b rows) (λ m. (rows : List (List ℕ)) → HasLeft m a rows → Advances rows true (Some (first_record b.reader.text)) (HasLeft m (showing b)))
      (λ m on rows left. shows_at m b rows has within (on rows left)) goes.rows;
  among = goes.among;
  readable = goes.readable;
}

pub shows_next : (t : Option Blocks) (a b c : FeedView) → GoesOn t a b → HasRecord b.reader.text → length b.reader.text ≤ length (all_used_bytes b.reader.pages) → c ≡ showing b → IsShown t a c
shows_next t a b c goes has within is =
    subst (IsShown t a) (sym is) (shows_next_at t a b goes has within)
