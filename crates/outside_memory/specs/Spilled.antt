use Rattle.std.specs.Prelude.{ℕ, List, ◌∷◌, Option, Some, None}
use Rattle.std.specs.List.{slice_index_or}
use Rattle.flow_outside.specs.Blocks.{Blocks}
use Rattle.outside_memory.specs.declared.spill_blocks.Slot.{Slot}
use Rattle.outside_memory.specs.declared.spill_blocks.Slot.TheVariants.{Free, Open, Holds}

-- What a slot says of its block: it isn't live, or its bytes are open, or it has these bytes.
abbrev pub contents : Slot → Option (Option (List ℕ))
contents (Free next) = None
contents Open = Some None
contents (Holds page) = Some (Some page.items)

-- What stands where there is no slot.
abbrev pub no_slot : Slot
no_slot = Free None

-- The slot of a block. Blocks are counted from 1.
abbrev pub slot_of : List Slot → ℕ → Slot
slot_of slots block = slice_index_or (no_slot ∷ slots) block no_slot

-- The blocks of these slots.
abbrev pub blocks_in : List Slot → Blocks
blocks_in slots = λ block. contents (slot_of slots block)
