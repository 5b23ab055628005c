-- A lot whose rows go to another: what is known of both, and what a call keeps. The rules are this project's own.
use Rattle.std.specs.Prelude.{◌≡◌, ℕ, ◌+◌, ◌-◌, ◌/◌, ◌<◌, ◌≤◌, true, All, List, [], ◌∷◌, ◌++◌, length, map, Option, Some, Result, OnOk, IsErrOf}
use Rattle.segment_core.specs.Segments.{PurseView, SegmentView}
use Rattle.flow_outside.specs.Blocks.{Blocks}
use Rattle.flow_outside.specs.Causes.{HasStreamCause}
use Rattle.flow_outside.specs.declared.failure.StreamFault.{StreamFault}
use Rattle.flow_outside.specs.declared.failure.StreamFault.TheVariants as fault
use Rattle.flow_types.specs.Tuples.{Tuple}
use Rattle.flow_types.specs.Types.{Fields}
use Rattle.flow_types.specs.Records.{IsTupleOf, form}
use Rattle.flow_model.specs.Env.{Tuples}
use Rattle.page_feed.specs.Feeds.{HasLeft}
use Rattle.lot_store.specs.LotCalls.{IsSupplied}
use Rattle.lot_store.specs.Lots.{HoldsRows, LotView, held}
use Rattle.lot_store.specs.Storage.{IsReady, Preserves, Stand, alone, held_count, pair}
use Rattle.row_pipe.specs.Works.{piped}
use Rattle.row_pipe.specs.declared.work.Work.{Work}

-- A lot holds these tuples of a schema: its records are theirs, in order.
pub record HoldsTuples (fields : Fields) (blocks : Blocks) (lot : LotView) (tuples : Tuples) : Type 0 where
  pub records : HoldsRows blocks lot (map form tuples)
  pub fitting : All (IsTupleOf fields) tuples

-- By what is told, these tuples of a schema are left to be read of a lot.
pub record LeavesTuples (fields : Fields) (blocks : Blocks) (lot : LotView) (tuples : Tuples) : Type 0 where
  pub records : HasLeft blocks lot.feed (map form tuples)
  pub fitting : All (IsTupleOf fields) tuples

-- These records stand behind those that the lot had.
abbrev pub AddsRows : (before after : LotView) (rows : List (List ℕ)) (old new : Blocks) → Type 0
AddsRows before after rows old new = (all : List (List ℕ)) → HoldsRows old before all → HoldsRows new after (all ++ rows)

-- The most pages that a record of so many bytes touches, wherever it begins: one more than its framed bytes fill, a page
-- begun counted whole.
abbrev pub most_touched : (size bytes : ℕ) → ℕ
most_touched size bytes = (4 + bytes + (size - 16) - 1) / (size - 16) + 1

-- Each of these records touches at most so many pages of so many bytes.
abbrev pub AreWithin : (size reach : ℕ) → (records : List (List ℕ)) → Type 0
AreWithin size reach records = All (λ (record_bytes : List ℕ). most_touched size (length record_bytes) ≤ reach) records

-- The lot stands beside its purse, and each of these records touches no more pages than the lot's reach.
pub record HasPlaceFor (records : List (List ℕ)) (lot : LotView) (purse : List SegmentView) (blocks : Blocks) : Type 0 where
  pub size : ℕ
  pub stand : Stand size purse (lot ∷ []) blocks
  pub within : AreWithin size lot.feed.reach records

-- Whatever row of the schema stands there, the rows that are given of it touch at most so many pages each.
abbrev pub GivesWithin : (fields : Fields) (work : Work) (size reach : ℕ) → Type 0
GivesWithin fields work size reach = (t : Tuple) → IsTupleOf fields t → AreWithin size reach (map form (piped work (t ∷ [])))

-- Both lots stand beside the purse, and there is a place for what is given of any row of the schema.
pub record HasPlaces (fields : Fields) (work : Work) (input out : LotView) (purse : List SegmentView) (blocks : Blocks) : Type 0 where
  pub size : ℕ
  pub stand : Stand size purse (input ∷ out ∷ []) blocks
  pub within : GivesWithin fields work size out.feed.reach

-- A record may be added to a lot beside this purse.
pub record CanAdd (told : Option Blocks) (lot : LotView) (purse : PurseView) : Type 0 where
  pub supply : IsSupplied purse lot
  pub ready : IsReady (alone told purse lot)

-- A lot may be read from its first row on while another is written: it rests, the purse has more segments than reading takes,
-- and room for those of both.
pub record MayPass (input out : LotView) (purse : PurseView) : Type 0 where
  pub supply : input.feed.reach < length purse.pages
  pub rests : length (held input) ≤ input.stored.room
  pub room : length purse.pages + held_count (input ∷ out ∷ []) ≤ purse.room

-- The lot that is read holds the rows of some tuples of the schema, and there is a place for what is given of them.
pub record HoldsWhatFits (fields : Fields) (work : Work) (input out : LotView) (purse : List SegmentView) (blocks : Blocks) : Type 0 where
  pub places : HasPlaces fields work input out purse blocks
  pub tuples : Tuples
  pub holds : HoldsTuples fields blocks input tuples

-- What a call keeps that reads one lot and writes another, whatever it answers: `Preserves` of both with their purse and their
-- disk, of which the second is written.
abbrev pub Passes : (told now : Option Blocks) (input input_now out out_now : LotView) (purse rest : PurseView) → Type 0
Passes told now input input_now out out_now purse rest =
    Preserves (pair told purse input out) (pair now rest input_now out_now) (0 ∷ 1 ∷ []) (1 ∷ []) true

-- Why a pass ended early: as any stream's reading, and `Damaged` has the block that was read last.
pub record HasPassCause (before now : ℕ) (told : Option Blocks) (input : LotView) (answer : Result Unit StreamFault) : Type 0 where
  pub cause : HasStreamCause before now told answer
  pub damaged : (block : ℕ) → IsErrOf answer (fault.Damaged block) → block ≡ input.read_last

-- The lot that was read rests, whatever the answer, and the other where all went well.
pub record RestsAfter (input out : LotView) (answer : Result Unit StreamFault) : Type 0 where
  pub read : length (held input) ≤ input.stored.room
  pub written : OnOk answer (length (held out) ≤ out.stored.room)

-- The lot shows the record of a tuple of the schema.
abbrev pub ShowsTuple : (fields : Fields) (lot : LotView) → Type 0
ShowsTuple fields lot = (t : Tuple) × (IsTupleOf fields t × (lot.feed.shown ≡ Some (form t)))

-- The rows that are given of the row that the lot shows stand behind those that the other lot had.
abbrev pub GivesShown : (fields : Fields) (work : Work) (input out out_now : LotView) (old new : Blocks) → Type 0
GivesShown fields work input out out_now old new =
    (t : Tuple) → IsTupleOf fields t → input.feed.shown ≡ Some (form t) → AddsRows out out_now (map form (piped work (t ∷ []))) old new

-- The rows that are given of all that was left to be read stand behind those that the lot had.
abbrev pub GivesAll : (fields : Fields) (work : Work) (input out out_now : LotView) (purse : List SegmentView) (old new : Blocks) → Type 0
GivesAll fields work input out out_now purse old new =
    (size : ℕ) → Stand size purse (input ∷ out ∷ []) old
    → (rows : Tuples) → LeavesTuples fields old input rows → AddsRows out out_now (map form (piped work rows)) old new

-- Of the tuples that were left, the first were passed on, and the others are left.
pub record IsMidway (fields : Fields) (work : Work) (input_now out out_now : LotView) (rows : Tuples) (old new : Blocks) : Type 0 where
  pub done : Tuples
  pub left : Tuples
  pub all : rows ≡ done ++ left
  pub behind : LeavesTuples fields new input_now left
  pub adds : AddsRows out out_now (map form (piped work done)) old new

-- So it is with whatever was left.
abbrev pub GoesThrough : (fields : Fields) (work : Work) (input input_now out out_now : LotView) (purse : List SegmentView) (old new : Blocks) → Type 0
GoesThrough fields work input input_now out out_now purse old new =
    (size : ℕ) → Stand size purse (input ∷ out ∷ []) old
    → (rows : Tuples) → LeavesTuples fields old input rows → IsMidway fields work input_now out out_now rows old new

-- The rows that are given of all rows of a lot stand behind those that the other lot had.
abbrev pub GivesRows : (fields : Fields) (work : Work) (input out out_now : LotView) (old new : Blocks) → Type 0
GivesRows fields work input out out_now old new =
    (rows : Tuples) (others : List (List ℕ)) → HoldsTuples fields old input rows → HoldsRows old out others
    → HoldsRows new out_now (others ++ map form (piped work rows))
