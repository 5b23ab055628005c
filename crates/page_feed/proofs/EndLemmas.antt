-- Lemmas on the answer of an advance.
use Rattle.std.proofs.Common.{◌≡◌, ℕ, suc, ◌+◌, ◌-◌, ◌<◌, ◌≤◌, false, List, [], ◌∷◌, ◌++◌, length, Option, Some, None, refl, sym, ap, ◌∙◌, arith, length-append, inl, inr}
use Rattle.std.proofs.lemmas.Bool.{cases_lt}
use Rattle.segment_core.specs.Segments.{SegmentView}
use Rattle.flow_outside.specs.Blocks.{Blocks}
use Rattle.flow_outside.specs.Told.{IfTold}
use Rattle.flow_types.specs.Records.{framed, frames}
use Rattle.paged_view.specs.Pages.{used_bytes, all_used_bytes}
use Rattle.paged_view.specs.Reading.{HasRecord, has_spent}
use Rattle.paged_view.specs.RecordLaws.{ReadsFirst}
use Rattle.paged_view.specs.Streams.{Advances}
use Rattle.paged_view.proofs.RecordLemmas.{length-framed, reads_first}
use Rattle.spool.specs.Runs.{joined}
use Rattle.page_feed.specs.Reach.{behind, sizes_of, touched}
use Rattle.page_feed.specs.Feeds.{FeedView, HasLeft, pages_left, sizes_left, unread}
use Rattle.page_feed.specs.Feeding.{GoesOn, IsFed, IsGivenOut, IsKnown, IsStuck}
use Rattle.page_feed.proofs.ReachLemmas.{behind_sum, behind_unspent, length-sizes_of, sizes_read, total, total-append, total-behind, total-sizes_of, total-sizes_read, touched_past}
use Rattle.page_feed.proofs.LeftLemmas.{none_left, told_map}

-- what stands behind the text in the reader
abbrev rest_of : Blocks → FeedView → List ℕ
rest_of m f = all_used_bytes f.ahead ++ (joined (pages_left m f.run) ++ all_used_bytes f.open_page)

-- and its pages' sizes
abbrev sizes_rest : Blocks → FeedView → List ℕ
sizes_rest m f =
    sizes_of f.ahead ++ (sizes_read (pages_left m f.run) ++ sizes_of f.open_page)

total-rest : (m : Blocks) (f : FeedView) → total (sizes_rest m f) ≡ length (rest_of m f)
total-rest m f =
    omega (
      arith,
      total-append (sizes_of f.ahead) (sizes_read (pages_left m f.run) ++ sizes_of f.open_page),
      total-append (sizes_read (pages_left m f.run)) (sizes_of f.open_page),
      total-sizes_of f.ahead,
      total-sizes_read (pages_left m f.run),
      total-sizes_of f.open_page,
      length-append (all_used_bytes f.ahead) (joined (pages_left m f.run) ++ all_used_bytes f.open_page),
      length-append (joined (pages_left m f.run)) (all_used_bytes f.open_page),
    )

length-unread : (m : Blocks) (f : FeedView) → length (unread m f) ≡ length f.reader.text + length (rest_of m f)
length-unread m f = length-append f.reader.text (rest_of m f)

-- The pages that are left have as many bytes as are left.
total-left : (m : Blocks) (f : FeedView) → length f.reader.text ≤ length (all_used_bytes f.reader.pages) → total (sizes_left m f) ≡ length (unread m f)
total-left m f within =
    omega (
      arith,
      within,
      total-behind (length (all_used_bytes f.reader.pages) - length f.reader.text) (sizes_of f.reader.pages ++ sizes_rest m f),
      total-append (sizes_of f.reader.pages) (sizes_rest m f),
      total-sizes_of f.reader.pages,
      total-rest m f,
      length-unread m f,
    )

-- Where no page is left to be given, the reader has all bytes.
rest_none : (m : Blocks) (f : FeedView) → IsGivenOut f → rest_of m f ≡ []
rest_none m f out =
    ap (λ ps. all_used_bytes ps ++ (joined (pages_left m f.run) ++ all_used_bytes f.open_page)) out.ahead
    ∙ ap (λ ps. joined ps ++ all_used_bytes f.open_page) (none_left m f.run out.run)
    ∙ ap all_used_bytes out.open_page

-- The first record that is left, as a fact of the text in the reader.
reads : (m : Blocks) (f : FeedView) (row : List ℕ) (rows : List (List ℕ)) → HasLeft m f (row ∷ rows) → ReadsFirst f.reader.text row
reads m f row rows left =
    reads_first f.reader.text (rest_of m f) row (frames rows) (left.lengths 0 [] (omega arith)) left.text

-- A record that isn't whole in the reader ends behind its text.
short : (m : Blocks) (f : FeedView) (row : List ℕ) (rows : List (List ℕ)) → HasLeft m f (row ∷ rows) → (HasRecord f.reader.text → ⊥) → length f.reader.text < 4 + length row
short m f row rows left used_bytes = elim (cases_lt (length f.reader.text) (4 + length row)) [
  | inl below ↦ below
  | inr past ↦ absurd (used_bytes ((reads m f row rows left).whole.1 past))
]

long : (m : Blocks) (f : FeedView) (row : List ℕ) (rows : List (List ℕ)) → HasLeft m f (row ∷ rows) → 4 + length row ≤ length (unread m f)
long m f row rows left =
    omega (arith, ap length left.text, length-append (framed row) (frames rows), length-framed row)

-- The reader has no page.
no_pages : (m : Blocks) (f : FeedView) (row : List ℕ) (rows : List (List ℕ)) → HasLeft m f (row ∷ rows) → IsFed f → f.reader.pages ≡ [] → length f.reader.pages ≡ f.reach → ⊥
no_pages m f row rows left fed none full =
    let all : 4 + length row ≤ total (sizes_left m f) = omega (arith, long m f row rows left, total-left m f fed.text) in
    let some : 0 < touched (4 + length row) (sizes_left m f) = touched_past (4 + length row) [] (sizes_left m f) (omega arith) (omega (arith, all)) in
    omega (arith, some, left.reach.0, full, ap length none)

-- No page is left to be given, so that the reader has the whole record.
no_rest : (m : Blocks) (f : FeedView) (row : List ℕ) (rows : List (List ℕ)) → HasLeft m f (row ∷ rows) → (HasRecord f.reader.text → ⊥) → IsGivenOut f → ⊥
no_rest m f row rows left used_bytes out =
    omega (arith, long m f row rows left, short m f row rows left used_bytes, length-unread m f, ap length (rest_none m f out))

-- The record touches each page in the reader, and one more.
too_long : (m : Blocks) (f : FeedView) (row : List ℕ) (rows : List (List ℕ)) (p : SegmentView) (ps : List SegmentView) → HasLeft m f (row ∷ rows) → (HasRecord f.reader.text → ⊥) → IsFed f → f.reader.pages ≡ p ∷ ps → has_spent f.reader.text f.reader.pages ≡ false → length f.reader.pages ≡ f.reach → ⊥
too_long m f row rows p ps left cut fed pages unspent full =
    let text : List ℕ = f.reader.text in
    let c : ℕ = length (all_used_bytes (p ∷ ps)) - length text in
    let fresh : has_spent text (p ∷ ps) ≡ false = ap (has_spent text) (sym pages) ∙ unspent in
    let within : length text ≤ length (all_used_bytes (p ∷ ps)) = omega (arith, fed.text, ap (λ qs. length (all_used_bytes qs)) pages) in
    let sizes : sizes_left m f ≡ (length (used_bytes p) - c) ∷ (sizes_of ps ++ sizes_rest m f) = ap (λ qs. behind (length (all_used_bytes qs) - length text) (sizes_of qs ++ sizes_rest m f)) pages ∙ behind_unspent text p ps (sizes_rest m f) fresh within in
    let sum : (length (used_bytes p) - c) + total (sizes_of ps) ≡ length text = behind_sum text p ps fresh within in
    let more : suc (length (sizes_of ps)) < touched (4 + length row) (((length (used_bytes p) - c) ∷ sizes_of ps) ++ sizes_rest m f) = touched_past (4 + length row) ((length (used_bytes p) - c) ∷ sizes_of ps) (sizes_rest m f) (omega (arith, sum, short m f row rows left cut)) (omega (arith, sum, total-rest m f, length-unread m f, long m f row rows left)) in
    omega (arith, more, left.reach.0, ap (touched (4 + length row)) sizes, full, ap length pages, length-sizes_of ps)

-- So a feed that is stuck has no record left.
stuck_full : (m : Blocks) (f : FeedView) (row : List ℕ) (rows : List (List ℕ)) (ps : List SegmentView) → f.reader.pages ≡ ps → HasLeft m f (row ∷ rows) → IsStuck f → length f.reader.pages ≡ f.reach → ⊥
stuck_full m f row rows [] is left stuck full = no_pages m f row rows left stuck.fed is full
stuck_full m f row rows (p ∷ ps) is left stuck full = elim stuck.put_away [
  | inl unspent ↦ too_long m f row rows p ps left stuck.used_bytes stuck.fed is unspent full
  | inr none ↦ no_rest m f row rows left stuck.used_bytes (stuck.fed.given_out (omega (arith, none, ap length is)))
]

pub no_rows : (m : Blocks) (f : FeedView) (rows : List (List ℕ)) → HasLeft m f rows → IsStuck f → rows ≡ []
no_rows m f [] left stuck = refl
no_rows m f (row ∷ rows) left stuck = absurd (elim stuck.refused [
  | inl out ↦ no_rest m f row rows left stuck.used_bytes out
  | inr full ↦ stuck_full m f row rows f.reader.pages refl left stuck full
])

-- Where no record is left, no byte is.
pub no_text : (m : Blocks) (f : FeedView) (rows : List (List ℕ)) → HasLeft m f rows → rows ≡ [] → f.reader.text ≡ []
no_text m f rows left none =
    let e : length (unread m f) ≡ 0 = ap length left.text ∙ ap (λ rs. length (frames rs)) none in
    empty f.reader.text (omega (arith, e, length-unread m f))
  where
    empty : (xs : List ℕ) → length xs ≡ 0 → xs ≡ []
    empty [] is = refl
    empty (x ∷ xs) is = absurd (omega (arith, is))

-- So a feed that is stuck has bytes left only over a disk that doesn't tell.
pub not_told : (t : Option Blocks) (f : FeedView) → IsKnown t f → IsStuck f → (f.reader.text ≡ [] → ⊥) → t ≡ None
not_told None f known stuck more = refl
not_told (Some m) f known stuck more =
    absurd (more (no_text m f known.0 known.1 (no_rows m f known.0 known.1 stuck)))

-- The end: no record is left.
ends_at : (m : Blocks) (f g : FeedView) (rows : List (List ℕ)) → g.shown ≡ None → HasLeft m g rows → rows ≡ [] → Advances rows false g.shown (HasLeft m g)
ends_at m f g [] none left is = (none, left)
ends_at m f g (row ∷ rows) none left is = cc

pub ends : (t : Option Blocks) (a b : FeedView) → GoesOn t a b → IsStuck b → b.shown ≡ None → IfTold t (λ m. (rows : List (List ℕ)) → HasLeft m a rows → Advances rows false b.shown (HasLeft m b))
ends t a b goes stuck none =
    told_map t (λ m. (rows : List (List ℕ)) → HasLeft m a rows → HasLeft m b rows) (λ m. (rows : List (List ℕ)) → HasLeft m a rows → Advances rows false b.shown (HasLeft m b))
    (λ m on rows left. ends_at m a b rows none (on rows left) (no_rows m b rows (on rows left) stuck)) goes.rows
