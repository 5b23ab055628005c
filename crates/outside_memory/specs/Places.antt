use Rattle.std.specs.Prelude.{ℕ, ◌+◌, ◌==◌, if◌then◌else◌, List, drop, Option, Some, None}
use Rattle.std.specs.List.{slice_index_or}
use Rattle.flow_outside.specs.Readers.{Reading, Readers}
use Rattle.outside_memory.specs.declared.places.Place.{Place}
use Rattle.outside_memory.specs.Files.{File, name_in, bytes_in}

-- A reader: its file's name, and the bytes behind its place.
abbrev pub reading_at : List File → Option Place → Option Reading
reading_at files None = None
reading_at files (Some place) =
    Some (record { name = name_in files place.file; left = Some (drop place.at (bytes_in files place.file)) })

-- The reader of each number, by its place.
abbrev pub readers_in : List File → List (Option Place) → Readers
readers_in files places = λ id. reading_at files (slice_index_or places id None)

-- The place of a reader that gave `count` more bytes: 0 ends it.
abbrev pub place_after : Place → ℕ → Option Place
place_after place count =
    if count == 0 then None else Some (record { file = place.file; at = place.at + count })
