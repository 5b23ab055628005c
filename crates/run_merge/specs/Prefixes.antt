-- Prefixes as numbers.
use Rattle.std.specs.Prelude.{◌≡◌, ℕ, List, ◌++◌, Option, option_map}
use Rattle.std.specs.Int.{to_be_bytes, w64}
use Rattle.run_merge.specs.declared.prefix.Prefix.{Prefix}

-- the sixteen bytes that two numbers write, each the high byte first
abbrev pub bytes_of : ℕ → ℕ → List ℕ
bytes_of high low = to_be_bytes w64 high ++ to_be_bytes w64 low

abbrev pub written : Prefix → List ℕ
written p = bytes_of p.high p.low

-- the prefix that is kept is that of the row that is shown, and none is kept exactly where none is shown
abbrev pub KeepsPrefix : (List ℕ → List ℕ) → Option Prefix → Option (List ℕ) → Type 0
KeepsPrefix prefix_of kept shown = option_map written kept ≡ option_map prefix_of shown
