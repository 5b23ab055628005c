use Rattle.std.specs.Prelude.{ℕ, Bool, true, false, not, ◌==◌, nat_le, List, take, drop, length, slice_index}
use Rattle.std.specs.Int.{from_be_bytes, cast_signed, w64}
use Rattle.flow_types.specs.declared.value.Value.{Value}
use Rattle.flow_types.specs.declared.value.Value.TheVariants as value
use Rattle.flow_types.specs.declared.field_type.FieldType.{FieldType}
use Rattle.flow_types.specs.declared.field_type.FieldType.TheVariants as type
use Rattle.record_codec.specs.declared.place.Place.{Place}
use Rattle.expr_core.specs.declared.seen.Seen.{Seen}
use Rattle.expr_core.specs.declared.seen.Seen.TheVariants as seen
use Rattle.expr_core.specs.declared.seen.Origin.{Origin}
use Rattle.expr_core.specs.declared.seen.Origin.TheVariants as origin
use Rattle.expr_core.specs.declared.seen.TextPlace.{TextPlace}

-- Where values lie while an expression is evaluated is this project's own. Each definition is over the bytes
-- of the record and the room: the part of the scratch that the expression was given.

-- the bytes of which a text's are the first: those of the record from a place on, a literal's, or the room's
abbrev pub origin_bytes : List ℕ → List ℕ → Origin → List ℕ
origin_bytes record_bytes room (origin.Record start) = drop start record_bytes
origin_bytes record_bytes room (origin.Literal bytes) = bytes.now
origin_bytes record_bytes room origin.Room = room

-- the bytes of a text
abbrev pub text_bytes : List ℕ → List ℕ → TextPlace → List ℕ
text_bytes record_bytes room text = take text.len (origin_bytes record_bytes room text.origin)

-- a text lies beside the record: in a literal or in the room, which are in one piece each
abbrev pub lies_apart : Origin → Bool
lies_apart (origin.Record start) = false
lies_apart (origin.Literal bytes) = true
lies_apart origin.Room = true

-- a text doesn't pass the end of where it lies
abbrev pub is_text_inside : List ℕ → List ℕ → TextPlace → Bool
is_text_inside record_bytes room text = nat_le text.len (length (origin_bytes record_bytes room text.origin))

-- how many bytes at the room's front a text takes: its own where it lies there, and else none
abbrev pub held_by : ℕ → Origin → ℕ
held_by len (origin.Record start) = 0
held_by len (origin.Literal bytes) = 0
held_by len origin.Room = len

-- how many bytes at the room's front what was seen takes
abbrev pub held : Seen → ℕ
held (seen.Long number) = 0
held (seen.Bool flag) = 0
held (seen.Str text) = held_by text.len text.origin

-- the value that what was seen stands for
abbrev pub value_in : List ℕ → List ℕ → Seen → Value
value_in record_bytes room (seen.Long number) = value.Long number
value_in record_bytes room (seen.Bool flag) = value.Bool flag
value_in record_bytes room (seen.Str text) = value.Str (text_bytes record_bytes room text)

-- a text that was seen doesn't pass the end of where it lies
abbrev pub is_inside : List ℕ → List ℕ → Seen → Bool
is_inside record_bytes room (seen.Long number) = true
is_inside record_bytes room (seen.Bool flag) = true
is_inside record_bytes room (seen.Str text) = is_text_inside record_bytes room text

-- where in the record a text begins; 0 of what lies elsewhere
abbrev pub start_in : Origin → ℕ
start_in (origin.Record start) = start
start_in (origin.Literal bytes) = 0
start_in origin.Room = 0

-- where in the record what was seen begins; 0 of what lies elsewhere
abbrev pub starts_at : Seen → ℕ
starts_at (seen.Long number) = 0
starts_at (seen.Bool flag) = 0
starts_at (seen.Str text) = start_in text.origin

-- the value of a field whose content lies at a place of a record
abbrev pub value_at : FieldType → Place → List ℕ → Value
value_at type.Long place bytes = value.Long (cast_signed w64 (from_be_bytes w64 (take 8 (drop place.start bytes))))
value_at type.Bool place bytes = value.Bool (not (slice_index bytes place.start == 0))
value_at (type.Str bound) place bytes = value.Str (take place.len (drop place.start bytes))

-- the least length of a field's content
abbrev pub least_len : FieldType → ℕ
least_len type.Long = 8
least_len type.Bool = 1
least_len (type.Str bound) = 0
