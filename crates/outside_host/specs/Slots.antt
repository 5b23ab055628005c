use Rattle.std.specs.Prelude.{List, Option, Some, None, String, string_bytes}
use Rattle.std.specs.List.{slice_index_or}
use Rattle.std.specs.declared.alloc.Global.{Global}
use Rattle.flow_outside.specs.Readers.{Reading, Readers}

-- A reader of a real file: its name is known, and its bytes are not told.
abbrev pub reading_of : {F : Type 0} → Option (String Global × F) → Option Reading
reading_of None = None
reading_of (Some file) = Some (record { name = string_bytes file.0; left = None })

-- The reader of each number.
abbrev pub readers_in : {F : Type 0} → List (Option (String Global × F)) → Readers
readers_in slots = λ id. reading_of (slice_index_or slots id None)
