-- How many pages a record touches. The rules are this project's own.
use Rattle.std.specs.Prelude.{ℕ, zero, suc, ◌+◌, ◌-◌, ◌≤◌, nat_lt, cond, List, [], ◌∷◌, map, length, ⊤}
use Rattle.segment_core.specs.Segments.{SegmentView}
use Rattle.paged_view.specs.Pages.{used_bytes}

-- Pages are seen here as the numbers of their used bytes, one page after the other.
abbrev pub sizes_of : List SegmentView → List ℕ
sizes_of pages = map (λ page. length (used_bytes page)) pages

-- How many pages the first `count` bytes touch. Bytes past the last page touch none.
abbrev pub touched : (count : ℕ) → List ℕ → ℕ
touched zero sizes = 0
touched (suc n) [] = 0
touched (suc n) (size ∷ sizes) = 1 + touched (suc n - size) sizes

-- What stands behind the first `count` bytes: the rest of the page in which they end, and the pages behind it.
abbrev pub behind : (count : ℕ) → List ℕ → List ℕ
behind count [] = []
behind count (size ∷ sizes) = cond (nat_lt count size) ((size - count) ∷ sizes) (behind (count - size) sizes)

-- Each of these records, framed one after the other from the first byte of the pages on, touches at most `reach` pages.
abbrev pub IsWithinReach : (reach : ℕ) → (sizes : List ℕ) → (rows : List (List ℕ)) → Type 0
IsWithinReach reach sizes [] = ⊤
IsWithinReach reach sizes (row ∷ rows) =
    (touched (4 + length row) sizes ≤ reach) × IsWithinReach reach (behind (4 + length row) sizes) rows
