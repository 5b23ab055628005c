use Rattle.std.proofs.Common.{◌≡◌, ℕ, ◌+◌, ◌-◌, ◌<◌, ◌≤◌, List, vec_len}
use Rattle.flow_outside.specs.Files.{bytes_of, IsAbsent}
use Rattle.flow_outside.proofs.Files.{Midway}
use Rattle.flow_outside.proofs.read_file.read_file.Given as goal

abbrev pub invariant-pieces : goal.invariant-pieces
invariant-pieces g l = record {
  room : 0 < vec_len l.piece;
  tells : g.S.Shelf.told l.shelf ≡ g.S.Shelf.told l.fn.shelf;
  later : (k : List ℕ) → g.S.Shelf.faults_at l.fn.shelf k ≤ g.S.Shelf.faults_at l.shelf k;
  there : IsAbsent (g.S.Shelf.told l.fn.shelf) l.fn.name → ⊥;
  midway : Midway (bytes_of (g.S.Shelf.told l.fn.shelf) l.fn.name) (g.S.Shelf.readers l.fn.shelf) (g.S.Shelf.readers l.shelf) (g.S.Shelf.living l.fn.shelf) (g.S.Shelf.living l.shelf) l.id l.fn.name l.bytes.items;
}

abbrev pub decreases-pieces : goal.decreases-pieces
decreases-pieces g l = l.limit + 1 - vec_len l.bytes
