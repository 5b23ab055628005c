-- A worker's storage as contracts see it, and what its calls keep. The rules are this project's own.
use Rattle.std.specs.Prelude.{◌≡◌, ℕ, ◌+◌, ◌-◌, ◌/◌, ◌^◌, ◌<◌, ◌≤◌, Bool, true, List, [], ◌∷◌, ◌++◌, length, map, Option, None, min, Result, IsErrOf}
use Rattle.std.specs.List.{range_with_len}
use Rattle.segment_core.specs.Segments.{PurseView}
use Rattle.flow_outside.specs.Blocks.{Blocks}
use Rattle.flow_outside.specs.Causes.{HasStreamCause}
use Rattle.flow_outside.specs.declared.failure.StreamFault.{StreamFault}
use Rattle.flow_outside.specs.declared.failure.StreamFault.TheVariants as fault
use Rattle.flow_model.specs.Env.{Tuples}
use Rattle.flow_types.specs.Types.{Fields}
use Rattle.lot_store.specs.Lots.{LotView, held}
use Rattle.lot_store.specs.Rows.{rows_of}
use Rattle.lot_store.specs.Storage.{Preserves, StorageView, lot_at, owners}
use Rattle.flow_types.specs.Records.{form, tuple_of}
use Rattle.row_pipe.specs.Pipes.{HoldsTuples}
use Rattle.row_pipe.specs.Works.{piped}
use Rattle.row_pipe.specs.declared.work.Work.{Work}

-- A storage is seen as the size of its segments, its purse, its disk, and its lots by their places.
pub record Storage (D : Type 0) : Type 0 where
  pub size : ℕ
  pub purse : PurseView
  pub disk : D
  pub lots : List LotView

-- what calls work on: the same, of the disk only what it tells
abbrev pub view_of : {D : Type 0} → (D → Option Blocks) → Storage D → StorageView
view_of told s = record { told = told s.disk; purse = s.purse; lots = s.lots }

-- the records of the lot at each place, by what the disk tells
abbrev pub rows_at : {D : Type 0} → (D → Option Blocks) → Storage D → (at : ℕ) → LotView → List (List ℕ)
rows_at told s at d = rows_of (told s.disk) (lot_at s.lots at d)

-- What a call over the lots at some places keeps of a storage: `Preserves`, and the size of segments.
pub record KeepsStorage {D : Type 0} (told : D → Option Blocks) (before after : Storage D) (touched written : List ℕ) (tidy : Bool) : Type 0 where
  pub size : after.size ≡ before.size
  pub preserves : Preserves (view_of told before) (view_of told after) touched written tidy

-- all places of so many lots
abbrev pub all_places : ℕ → List ℕ
all_places count = range_with_len 0 count

-- a storage with a lot more, behind the others
abbrev pub with_lot : LotView → StorageView → StorageView
with_lot lot view = record { told = view.told; purse = view.purse; lots = view.lots ++ lot ∷ [] }

-- A record of so many bytes touches no more pages of so many bytes than the reach, wherever it begins.
abbrev pub IsShort : (size reach count : ℕ) → Type 0
IsShort size reach count = (4 + count + (size - 16) - 1) / (size - 16) + 1 ≤ reach

-- A lot may be read from its first row on: it rests, and the purse has more segments than reading takes.
pub record MayRead (purse : PurseView) (lot : LotView) : Type 0 where
  pub supply : lot.feed.reach < length purse.pages
  pub rests : length (held lot) ≤ lot.stored.room

-- A lot holds the rows of some tuples of a schema.
abbrev pub HoldsSome : Fields → LotView → Blocks → Type 0
HoldsSome fields lot blocks = (tuples : Tuples) × HoldsTuples fields blocks lot tuples

-- how many records these are, the greatest number of 64 bits where there are more
abbrev pub row_count : List (List ℕ) → ℕ
row_count records = min (length records) (2 ^ 64 - 1)

-- Why counting a lot's records ended early: as any stream's reading, and `Damaged` has the block that was read last.
pub record HasCountCause (before now : ℕ) (told : Option Blocks) (lot : LotView) (answer : Result ℕ StreamFault) : Type 0 where
  pub cause : HasStreamCause before now told answer
  pub damaged : (block : ℕ) → IsErrOf answer (fault.Damaged block) → block ≡ lot.read_last

-- No block that was one of the lots' is live.
abbrev pub FreesAll : (lots : List LotView) → (old new : Blocks) → Type 0
FreesAll lots old new = (block : ℕ) → 0 < owners old block lots → new block ≡ None

-- the records of the rows that are given of the rows that records are read as
abbrev pub given : Fields → Work → List (List ℕ) → List (List ℕ)
given fields work records = map form (piped work (map (tuple_of fields) records))
