-- What a call works with stays in its place.
use Rattle.std.specs.Prelude.{◌≡◌}
use Rattle.spool.specs.declared.io.Io.{Io}

-- A purse and a disk are lent on to the end of a call: both references are those that came in. Each call that is handed
-- an `Io` to work with says so, so that its caller has both back.
abbrev pub HasSameParts : {D : Type 0} → (old new : Io D) → Type 0
HasSameParts old new = (new.purse.ghost_name ≡ old.purse.ghost_name) × (new.disk.ghost_name ≡ old.disk.ghost_name)
