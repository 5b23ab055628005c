-- What a borrowed record shows.
use Rattle.std.specs.Prelude.{ℕ, Bool, List, ◌++◌, length, take, nat_le}
use Rattle.paged_view.specs.Shares.{shares}
use Rattle.paged_view.specs.declared.record_ref.RecordRef.{RecordRef}

-- Its bytes: as many as it is long, from its first piece on, through two lists of segments.
abbrev pub seen_in : RecordRef → List ℕ
seen_in r = take r.len (r.first.now ++ (shares r.share r.near.now ++ shares r.share r.far.now))

-- no byte of it lies behind its first piece
abbrev pub lies_in_first : RecordRef → Bool
lies_in_first r = nat_le r.len (length r.first.now)
