-- What calls over lots work on, and the one relation that says what every call keeps. The rules are this project's own.
use Rattle.std.specs.Prelude.{◌≡◌, ◌≢◌, ◌⊎◌, ◌==◌, ℕ, zero, suc, ◌+◌, ◌<◌, ◌≤◌, Bool, true, All, List, [], ◌∷◌, length, slice_index_or, sum_by, count_by, map, Option, Some, None, ⊤}
use Rattle.segment_core.specs.Segments.{PurseView, SegmentView, count_other_size, segment_sum}
use Rattle.flow_outside.specs.Blocks.{Blocks, BothTold, IsLive}
use Rattle.flow_outside.specs.Told.{IfTold}
use Rattle.spool.specs.Runs.{next_in}
use Rattle.spool.specs.declared.writer.RunWriter.{RunWriter}
use Rattle.spool.specs.Spilling.{IsSpilled}
use Rattle.lot_store.specs.Lots.{LotView, ReadsOwn, held, pages_of}

-- What a call works on: the blocks of its disk, where told, a purse, and some lots by their places. It stands in contracts
-- alone.
pub record StorageView : Type 0 where
  pub told : Option Blocks
  pub purse : PurseView
  pub lots : List LotView

-- one lot, and two
abbrev pub alone : Option Blocks → PurseView → LotView → StorageView
alone told purse lot = record { told = told; purse = purse; lots = lot ∷ [] }

abbrev pub pair : Option Blocks → PurseView → LotView → LotView → StorageView
pair told purse one other = record { told = told; purse = purse; lots = one ∷ other ∷ [] }

-- the purse with a segment on top that a call was handed
abbrev pub with_segment : SegmentView → PurseView → PurseView
with_segment segment purse = record { room = purse.room; pages = segment ∷ purse.pages }

-- the lot at a place; `d` past the end
abbrev pub lot_at : List LotView → ℕ → LotView → LotView
lot_at lots i d = slice_index_or lots i d

-- how many segments all lots hold, and what these sum up to where each counts by its id and its size
abbrev pub held_count : List LotView → ℕ
held_count lots = sum_by (λ lot. length (held lot)) lots

abbrev pub held_sum : (ℕ → ℕ → ℕ) → List LotView → ℕ
held_sum h lots = sum_by (λ lot. segment_sum h (held lot)) lots

-- how many segments all lots may hold while they rest
abbrev pub rooms : List LotView → ℕ
rooms lots = sum_by (λ lot. lot.stored.room) lots

-- the blocks of a chain of pages, in order, that behind the last page among them
abbrev pub blocks_at : Blocks → (at count : ℕ) → List ℕ
blocks_at blocks at zero = at ∷ []
blocks_at blocks at (suc count) = at ∷ blocks_at blocks (next_in blocks at) count

-- the blocks of a run, and none where there is no run
abbrev pub run_blocks : Blocks → Option RunWriter → List ℕ
run_blocks blocks None = []
run_blocks blocks (Some run) = blocks_at blocks run.first run.pages

-- how often a block is one of a lot's
abbrev pub times_in : Blocks → (block : ℕ) → LotView → ℕ
times_in blocks block lot = count_by (λ b. b == block) (run_blocks blocks lot.stored.run)

-- how often it is one of some lots': 0 where it is nobody's of these, 1 where it is one lot's
abbrev pub owners : Blocks → (block : ℕ) → List LotView → ℕ
owners blocks block lots = sum_by (times_in blocks block) lots

-- A lot's run stands, each page of `size` bytes, and the lot reads no other block.
pub record StandsAt (size : ℕ) (blocks : Blocks) (lot : LotView) : Type 0 where
  pub spilled : IsSpilled blocks size lot.stored.run
  pub reads : ReadsOwn blocks lot

-- Lots stand on their disk beside a purse: all segments have `size` bytes, each lot's run stands, and no block is one of
-- two lots.
pub record Stand (size : ℕ) (purse : List SegmentView) (lots : List LotView) (blocks : Blocks) : Type 0 where
  pub sized : count_other_size size purse + sum_by (λ lot. count_other_size size (held lot)) lots ≡ 0
  pub each : All (StandsAt size blocks) lots
  pub apart : (block : ℕ) → owners blocks block lots ≤ 1

-- A call may work on it: the purse has room for all segments, and where the disk tells, the lots stand on it, for some size
-- of segments.
pub record IsReady (view : StorageView) : Type 0 where
  pub room : length view.purse.pages + held_count view.lots ≤ view.purse.room
  pub stand : IfTold view.told (λ blocks. (size : ℕ) × Stand size view.purse.pages view.lots blocks)

-- The same at a size that is known.
pub record IsReadyAt (size : ℕ) (view : StorageView) : Type 0 where
  pub room : length view.purse.pages + held_count view.lots ≤ view.purse.room
  pub stand : IfTold view.told (Stand size view.purse.pages view.lots)

-- There are segments for a call, beside those that the lots may keep while they rest: where all lots rest, the purse has
-- at least `need`.
abbrev pub HasBudget : (need : ℕ) → StorageView → Type 0
HasBudget need view = need + rooms view.lots ≤ length view.purse.pages + held_count view.lots

-- none of these places is this one
abbrev pub IsNoneOf : ℕ → List ℕ → Type 0
IsNoneOf i [] = ⊤
IsNoneOf i (place ∷ places) = (i ≢ place) × IsNoneOf i places

-- this block isn't live, or it is one of the lots'
abbrev pub IsFreeOrOwned : Blocks → List LotView → (block : ℕ) → Type 0
IsFreeOrOwned blocks lots block = (blocks block ≡ None) ⊎ (0 < owners blocks block lots)

-- What a call that writes the lots at some places does to the blocks of the disk. Those of every other lot are as they were.
-- A block that was live and nobody's is as it was, and nobody's still. Where the call is tidy, no block becomes live that is
-- nobody's, and none that was a lot's stays live as nobody's.
pub record SparesBlocks (lots lots_now : List LotView) (written : List ℕ) (tidy : Bool) (old new : Blocks) : Type 0 where
  pub own : (i : ℕ) (d : LotView) → i < length lots → IsNoneOf i written → (block : ℕ) → 0 < times_in old block (lot_at lots i d) → new block ≡ old block
  pub others : (block : ℕ) → IsLive old block → owners old block lots ≡ 0 → (new block ≡ old block) × (owners new block lots_now ≡ 0)
  pub fresh : tidy ≡ true → (block : ℕ) → IsFreeOrOwned old lots block → IsFreeOrOwned new lots_now block

-- Lots that stood, at whatever size, stand as they did, and the blocks of others are spared.
pub record StaysStanding (before after : StorageView) (written : List ℕ) (tidy : Bool) (old new : Blocks) : Type 0 where
  pub stand : (size : ℕ) → Stand size before.purse.pages before.lots old → Stand size after.purse.pages after.lots new
  pub spares : (size : ℕ) → Stand size before.purse.pages before.lots old → SparesBlocks before.lots after.lots written tidy old new

-- What every call over lots keeps, whatever it answers. There are as many lots as before, each keeps as many pages and takes
-- records over as many. A lot at another place than the touched ones is the same, and one at another place than the written
-- ones has the same pages. Every segment stands in the purse or in a lot, as before, and the purse may hold as many. The
-- disk tells what it told, and on it the lots stand as they did and the blocks of others are spared.
pub record Preserves (before after : StorageView) (touched written : List ℕ) (tidy : Bool) : Type 0 where
  pub count : length after.lots ≡ length before.lots
  pub rooms : (i : ℕ) (d : LotView) → (lot_at after.lots i d).stored.room ≡ (lot_at before.lots i d).stored.room
  pub reach : (i : ℕ) (d : LotView) → (lot_at after.lots i d).feed.reach ≡ (lot_at before.lots i d).feed.reach
  pub same : (i : ℕ) (d : LotView) → IsNoneOf i touched → lot_at after.lots i d ≡ lot_at before.lots i d
  pub pages : (i : ℕ) (d : LotView) → IsNoneOf i written → pages_of (lot_at after.lots i d) ≡ pages_of (lot_at before.lots i d)
  pub segments : (h : ℕ → ℕ → ℕ) → segment_sum h after.purse.pages + held_sum h after.lots ≡ segment_sum h before.purse.pages + held_sum h before.lots
  pub purse_room : after.purse.room ≡ before.purse.room
  pub told : BothTold before.told after.told (StaysStanding before after written tidy)

-- the lots at some places, in this order
abbrev pub lots_at : List LotView → List ℕ → LotView → List LotView
lots_at lots places d = map (λ i. lot_at lots i d) places

-- what a call is handed that works on the lots at some places alone
abbrev pub part_of : StorageView → List ℕ → LotView → StorageView
part_of view places d = record { told = view.told; purse = view.purse; lots = lots_at view.lots places d }

-- no place stands twice, and all are below a number
abbrev pub Differ : List ℕ → Type 0
Differ [] = ⊤
Differ (place ∷ places) = IsNoneOf place places × Differ places

abbrev pub AreBelow : ℕ → List ℕ → Type 0
AreBelow count [] = ⊤
AreBelow count (place ∷ places) = (place < count) × AreBelow count places

-- the places that stand at some places of a list of places
abbrev pub places_at : List ℕ → List ℕ → List ℕ
places_at places ks = map (λ k. slice_index_or places k 0) ks
