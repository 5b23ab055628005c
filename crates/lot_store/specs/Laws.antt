-- What is so of the relation that every call keeps, whoever the lots belong to.
use Rattle.std.specs.Prelude.{◌≡◌, ℕ, ◌<◌, Bool, true, All, List, [], length, Some, None}
use Rattle.flow_outside.specs.Blocks.{Blocks}
use Rattle.page_feed.specs.Feeds.{HasLeft}
use Rattle.lot_store.specs.Lots.{HoldsRows, LotView}
use Rattle.lot_store.specs.Storage.{AreBelow, Differ, HasBudget, IsNoneOf, IsReady, Preserves, StorageView, lot_at, owners, part_of, places_at}

-- A call kept this of its storage, which was ready for it.
pub record WasKept (before after : StorageView) (touched written : List ℕ) (tidy : Bool) : Type 0 where
  pub ready : IsReady before
  pub preserves : Preserves before after touched written tidy

-- The laws. It holds of nothing done, and of one call after another. More places may be said to be touched and written, and
-- less to be tidy. Where a call worked on the lots at some places and the others are the same, it holds of all. What a call may work on, the next may, with the same
-- budget. Where nothing was written the records stay, and where nothing was touched so do those that are left to be read. Where
-- a tidy call leaves no run, every block that was a lot's is free.
pub record StorageLaws : Type 0 where
  pub nothing : (view : StorageView) → Preserves view view [] [] true
  pub joins : (a b c : StorageView) (touched written : List ℕ) (tidy : Bool)
      → Preserves a b touched written tidy → Preserves b c touched written tidy → Preserves a c touched written tidy
  pub more : (a b : StorageView) (touched written touched_more written_more : List ℕ) (tidy less : Bool)
      → ((i : ℕ) → IsNoneOf i touched_more → IsNoneOf i touched) → ((i : ℕ) → IsNoneOf i written_more → IsNoneOf i written)
      → (less ≡ true → tidy ≡ true) → Preserves a b touched written tidy → Preserves a b touched_more written_more less
  pub parts : (places : List ℕ) (a b : StorageView) (d : LotView) (touched written : List ℕ) (tidy : Bool)
      → Differ places → AreBelow (length a.lots) places → length b.lots ≡ length a.lots
      → ((i : ℕ) (e : LotView) → IsNoneOf i places → lot_at b.lots i e ≡ lot_at a.lots i e)
      → Preserves (part_of a places d) (part_of b places d) touched written tidy
      → Preserves a b (places_at places touched) (places_at places written) tidy
  pub ready : (a b : StorageView) (touched written : List ℕ) (tidy : Bool) → WasKept a b touched written tidy → IsReady b
  pub budget : (a b : StorageView) (touched written : List ℕ) (tidy : Bool) (need : ℕ)
      → Preserves a b touched written tidy → HasBudget need a → HasBudget need b
  pub rows : (a b : StorageView) (touched written : List ℕ) (tidy : Bool) (m n : Blocks) (i : ℕ) (d : LotView) (rows : List (List ℕ))
      → WasKept a b touched written tidy → a.told ≡ Some m → b.told ≡ Some n → i < length a.lots → IsNoneOf i written
      → HoldsRows m (lot_at a.lots i d) rows → HoldsRows n (lot_at b.lots i d) rows
  pub left : (a b : StorageView) (touched written : List ℕ) (tidy : Bool) (m n : Blocks) (i : ℕ) (d : LotView) (rows : List (List ℕ))
      → WasKept a b touched written tidy → a.told ≡ Some m → b.told ≡ Some n → i < length a.lots → IsNoneOf i touched → IsNoneOf i written
      → HasLeft m (lot_at a.lots i d).feed rows → HasLeft n (lot_at b.lots i d).feed rows
  pub freed : (a b : StorageView) (touched written : List ℕ) (m n : Blocks)
      → WasKept a b touched written true → a.told ≡ Some m → b.told ≡ Some n → All (λ lot. lot.stored.run ≡ None) b.lots
      → (block : ℕ) → 0 < owners m block a.lots → n block ≡ None
