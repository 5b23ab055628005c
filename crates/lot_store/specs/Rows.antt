-- The records that a lot stands for, as a function of its bytes. The rules are this project's own.
use Rattle.std.specs.Prelude.{◌≡◌, ℕ, zero, suc, List, [], ◌∷◌, ◌++◌, length, Option, Some, None}
use Rattle.flow_outside.specs.Blocks.{Blocks}
use Rattle.paged_view.specs.Reading.{after_first, first_record}
use Rattle.lot_store.specs.Lots.{HoldsRows, LotView, text}

-- The records that framed bytes are read as, one after the other: at most so many, and none of no bytes.
abbrev pub unframed_up_to : (most : ℕ) → List ℕ → List (List ℕ)
unframed_up_to zero bytes = []
unframed_up_to (suc most) [] = []
unframed_up_to (suc most) (byte ∷ bytes) = first_record (byte ∷ bytes) ∷ unframed_up_to most (after_first (byte ∷ bytes))

-- the records that bytes are read as: no more than there are bytes
abbrev pub unframed : List ℕ → List (List ℕ)
unframed bytes = unframed_up_to (length bytes) bytes

-- the records of a lot
abbrev pub rows_in : Blocks → LotView → List (List ℕ)
rows_in blocks lot = unframed (text blocks lot)

-- the same by what the disk tells, and none where it doesn't tell
abbrev pub rows_of : Option Blocks → LotView → List (List ℕ)
rows_of None lot = []
rows_of (Some blocks) lot = rows_in blocks lot

-- A lot is whole: its bytes are its records', framed, and each is within its reach.
abbrev pub IsWhole : Blocks → LotView → Type 0
IsWhole blocks lot = HoldsRows blocks lot (rows_in blocks lot)

-- A lot that was whole is whole, and has these records behind those that it had.
pub record Gains (before after : LotView) (added : List (List ℕ)) (old new : Blocks) : Type 0 where
  pub whole : IsWhole old before → IsWhole new after
  pub rows : IsWhole old before → rows_in new after ≡ rows_in old before ++ added

-- The law: a lot holds the records that it is read as, and no others.
abbrev pub RowsAreRead : Type 0
RowsAreRead = (blocks : Blocks) (lot : LotView) (rows : List (List ℕ)) → HoldsRows blocks lot rows → rows_in blocks lot ≡ rows
