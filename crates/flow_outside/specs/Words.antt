use Rattle.std.specs.Prelude.{ℕ, List, map, string_bytes}
use Rattle.flow_outside.specs.declared.words.Words.TheInside.{Inside}

-- Words are seen as the list of their texts, in the order in which they were pushed.
abbrev pub texts : Inside → List (List ℕ)
texts words = map string_bytes words.strings.items
