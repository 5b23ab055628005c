-- Segments, purses and pools as contracts see them, and what a list of segments weighs.
use Rattle.std.specs.Prelude.{ℕ, ◌*◌, Bool, ◌==◌, ◌||◌, not, List, length, map, replicate, sum_by, count_by}
use Rattle.std.specs.List.{range_with_len}
use Rattle.segment_core.specs.declared.segment.TheConstants.{SMALLEST_SIZE, LARGEST_SIZE}

-- A segment is seen as its id and its bytes.
pub record SegmentView : Type 0 where
  pub id : ℕ
  pub bytes : List ℕ

-- A purse is seen as the most segments that it may hold, and those that it holds.
pub record PurseView : Type 0 where
  pub room : ℕ
  pub pages : List SegmentView

-- A pool is seen as the number of its segments, the bytes of each, and the segments that are free.
pub record PoolView : Type 0 where
  pub total : ℕ
  pub size : ℕ
  pub free : List SegmentView

-- A segment's size is the smallest, twice or four times the smallest, or the largest.
abbrev pub is_segment_size : ℕ → Bool
is_segment_size n =
    (n == SMALLEST_SIZE) || ((n == 2 * SMALLEST_SIZE) || ((n == 4 * SMALLEST_SIZE) || (n == LARGEST_SIZE)))

-- What pages weigh, where `h` says what one weighs by its id and by its number of bytes. A page's
-- bytes change while it is held; its id and its number of bytes never do. So each call that takes or
-- gives segments says: for every weight, what came out weighs what went in.
abbrev pub segment_sum : (ℕ → ℕ → ℕ) → List SegmentView → ℕ
segment_sum h pages = sum_by (λ p. h p.id (length p.bytes)) pages

-- How many of the pages have this id.
abbrev pub copies : ℕ → List SegmentView → ℕ
copies id pages = count_by (λ p. p.id == id) pages

-- How many of the pages have another number of bytes than this.
abbrev pub count_other_size : ℕ → List SegmentView → ℕ
count_other_size size pages = count_by (λ p. not (length p.bytes == size)) pages

-- The page of this id, of so many zero bytes.
abbrev pub blank_page : ℕ → ℕ → SegmentView
blank_page size id = record { id = id; bytes = replicate size 0 }

-- The pages of a new pool: the ids 0 to count - 1 in turn.
abbrev pub blank_pages : ℕ → ℕ → List SegmentView
blank_pages count size = map (blank_page size) (range_with_len 0 count)
