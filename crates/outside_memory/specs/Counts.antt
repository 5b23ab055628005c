use Rattle.std.specs.Prelude.{ℕ, List, Option, Some, None, slice_index}

-- The count at a file, or that of all unknown names.
abbrev pub count_in : (counts : List ℕ) (unknown : ℕ) → Option ℕ → ℕ
count_in counts unknown None = unknown
count_in counts unknown (Some place) = slice_index counts place
