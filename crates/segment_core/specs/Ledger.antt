-- The ledger: of n segments with the ids 0 to n - 1 each stands exactly once among all holders. The
-- rule is this project's own.
use Rattle.std.specs.Prelude.{◌≡◌, ℕ, ◌+◌, ◌<◌, ◌≤◌, true, List, [], ◌∷◌, ◌++◌, reverse, sum_by}
use Rattle.segment_core.specs.Segments.{SegmentView, PoolView, PurseView, is_segment_size, segment_sum, copies, count_other_size}
use Rattle.segment_core.specs.declared.pool.TheConstants.{MOST_SEGMENTS}

-- What all holders weigh together. A holder is whatever has segments, seen as the list of its pages.
abbrev pub segment_sum_all : (ℕ → ℕ → ℕ) → List (List SegmentView) → ℕ
segment_sum_all h holders = sum_by (segment_sum h) holders

-- Of `total` segments of `size` bytes each stands exactly once among the holders: every id below
-- `total` once, no other id, and no other size.
pub record IsLedger (total size : ℕ) (holders : List (List SegmentView)) : Type 0 where
  pub once : (id : ℕ) → id < total → sum_by (copies id) holders ≡ 1
  pub none : (id : ℕ) → total ≤ id → sum_by (copies id) holders ≡ 0
  pub sized : sum_by (count_other_size size) holders ≡ 0

-- Holders changed from `before` to `after`, and every ledger in which they stand still holds, whoever
-- else holds segments.
pub record KeepsLedger (before after : List (List SegmentView)) : Type 0 where
  pub holds : (total size : ℕ) (others : List (List SegmentView)) →
      IsLedger total size (before ++ others) → IsLedger total size (after ++ others)

-- Pages are segments of a pool that has `total` of `size` bytes: no two are the same.
pub record IsPartOf (total size : ℕ) (pages : List SegmentView) : Type 0 where
  pub sized : count_other_size size pages ≡ 0
  pub known : (id : ℕ) → total ≤ id → copies id pages ≡ 0
  pub once : (id : ℕ) → copies id pages ≤ 1

-- What is true of every pool: its size and its number of segments are within their bounds, the free
-- segments are its own, and their list, of `len`, has space reserved for all.
pub record IsSound (total size : ℕ) (free : List SegmentView) (len capacity : ℕ) : Type 0 where
  pub sized : is_segment_size size ≡ true
  pub least : 0 < total
  pub most : total ≤ MOST_SEGMENTS
  pub own : IsPartOf total size free
  pub fits : len ≤ total
  pub reserved : total ≤ capacity

-- Pages may go back to a pool: each has the pool's size and an id below its total, and none is free
-- or stands twice.
pub record MayReturn (pool : PoolView) (pages : List SegmentView) : Type 0 where
  pub sized : count_other_size pool.size pages ≡ 0
  pub known : (id : ℕ) → pool.total ≤ id → copies id pages ≡ 0
  pub once : (id : ℕ) → copies id pool.free + copies id pages ≤ 1

-- Segments went out of a pool into a purse: those that were free are those that still are and, in the other order, the
-- purse's. Together they weigh what was free, and every ledger still holds.
pub record Leases (old new : PoolView) (purse : PurseView) : Type 0 where
  pub moved : old.free ≡ new.free ++ reverse purse.pages
  pub segments : (h : ℕ → ℕ → ℕ) → segment_sum h new.free + segment_sum h purse.pages ≡ segment_sum h old.free
  pub ledger : KeepsLedger (old.free ∷ []) (new.free ∷ purse.pages ∷ [])

-- What the law speaks of: the holders of a ledger before and after a change.
pub record Change : Type 0 where
  pub before : List (List SegmentView)
  pub after : List (List SegmentView)
