use Rattle.std.specs.Prelude.{ℕ, List, Option, Some}
use Rattle.flow_outside.specs.Files.{Files}
use Rattle.flow_outside.specs.Readers.{Readers}
use Rattle.flow_outside.specs.Slots.{living_in}
use Rattle.outside_memory.specs.Counts.{count_in}
use Rattle.outside_memory.specs.Files.{file_at, told_in}
use Rattle.outside_memory.specs.Places.{readers_in}
use Rattle.outside_memory.specs.declared.mem_shelf.MemShelf.{MemShelf}

-- The files: of each name the bytes of the first file of that name, and of an unknown name none.
abbrev pub told_by : MemShelf → Option Files
told_by shelf = Some (told_in shelf.files.items)

-- The reader of each number.
abbrev pub readers_of : MemShelf → Readers
readers_of shelf = readers_in shelf.files.items shelf.places.items

-- How many readers live.
abbrev pub living_of : MemShelf → ℕ
living_of shelf = living_in shelf.places.items

-- The place of the first file of a name.
abbrev pub place_in : MemShelf → List ℕ → Option ℕ
place_in shelf name = file_at shelf.files.items name

-- The count of faults at a name: that of the first file of that name, or that of all unknown names.
abbrev pub faults_of : MemShelf → List ℕ → ℕ
faults_of shelf name = count_in shelf.counts.files.items shelf.counts.unknown (place_in shelf name)
