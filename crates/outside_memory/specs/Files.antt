use Rattle.std.specs.Prelude.{ℕ, List, [], Option, Some, None, Vec, slice_get, option_map}
use Rattle.std.specs.declared.alloc.Global.{Global}
use Rattle.std.specs.List.{position}
use Rattle.std.specs.Str.{bytes_eq}

-- A file: its name and its bytes.
abbrev pub File : Type 0
File = List ℕ × Vec ℕ Global

-- The place of the first file of this name.
abbrev pub file_at : List File → List ℕ → Option ℕ
file_at files name = position (λ file. bytes_eq file.0 name) files

-- The name of a file, and the empty name where there is none.
abbrev pub name_or_none : Option File → List ℕ
name_or_none None = []
name_or_none (Some file) = file.0

-- The bytes of a file, and no bytes where there is none.
abbrev pub bytes_or_none : Option File → List ℕ
bytes_or_none None = []
bytes_or_none (Some file) = file.1.items

-- The name of the file at a place.
abbrev pub name_in : List File → ℕ → List ℕ
name_in files place = name_or_none (slice_get files place)

-- The bytes of the file at a place.
abbrev pub bytes_in : List File → ℕ → List ℕ
bytes_in files place = bytes_or_none (slice_get files place)

-- What is told of a name: the bytes of the first file of that name, and that there is none of an unknown name.
abbrev pub told_in : List File → List ℕ → Option (List ℕ)
told_in files name = option_map (bytes_in files) (file_at files name)
