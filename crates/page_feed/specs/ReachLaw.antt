-- Appending a record keeps records within reach. The rule is this project's own.
use Rattle.std.specs.Prelude.{◌≡◌, ℕ, ◌+◌, ◌-◌, ◌/◌, ◌<◌, ◌≤◌, List, [], ◌∷◌, ◌++◌, All, length, replicate, sum, ⊤}
use Rattle.flow_types.specs.Records.{frames}
use Rattle.page_feed.specs.Reach.{IsWithinReach}

-- The open page, where there is one: some of its bytes are used, and no more than a page has.
abbrev pub IsUnderWay : (page : ℕ) → (sizes : List ℕ) → Type 0
IsUnderWay page [] = ⊤
IsUnderWay page (size ∷ []) = (0 < size) × (size ≤ page)
IsUnderWay page (first ∷ second ∷ sizes) = ⊥

-- Pages have grown by a record. The ones that stay are as they were, and each has some bytes. Behind them stand now
-- `count` full pages, of `page` bytes each, and perhaps another one under way: the bytes of the page that was under way
-- before, where there was one, and those of the framed record.
pub record IsGrown (page count : ℕ) (stay open_page after : List ℕ) (row : List ℕ) : Type 0 where
  pub some : 0 < page
  pub used : All (λ size. 0 < size) stay
  pub last_page : IsUnderWay page open_page
  pub after_page : IsUnderWay page after
  pub same_page : count ≡ 0 → length open_page ≤ length after
  pub bytes : sum (stay ++ (replicate count page ++ after)) ≡ sum (stay ++ open_page) + (4 + length row)

-- The law: where the records fill the pages and each is within reach, and the framed record touches at most `reach`
-- pages wherever it begins, it is within reach behind them, and they still are. A framed record of n bytes touches at
-- most n / page pages, rounded up, and one more.
abbrev pub AppendingStaysWithinReach : Type 0
AppendingStaysWithinReach = (reach page count : ℕ) (stay open_page after : List ℕ) (rows : List (List ℕ)) (row : List ℕ)
    → IsGrown page count stay open_page after row
    → length (frames rows) ≡ sum (stay ++ open_page)
    → (4 + length row + page - 1) / page + 1 ≤ reach
    → IsWithinReach reach (stay ++ open_page) rows
    → IsWithinReach reach (stay ++ (replicate count page ++ after)) (rows ++ row ∷ [])
