use Rattle.std.proofs.Common.{◌≡◌, ℕ, ◌+◌, ◌-◌, ◌≤◌, List, length}
use Rattle.flow_outside.specs.Readers.{Lives, OthersStand, left_of, name_of}
use Rattle.flow_outside.specs.Told.{IfTold}
use Rattle.delim_io.specs.Input.{input_limit}
use Rattle.delim_io.specs.LinesLeft.{ReadsAhead}
use Rattle.delim_io.proofs.line_reader.LineReader.advance.Given as goal

abbrev pub invariant-pieces : goal.invariant-pieces
invariant-pieces g l = record {
  lives : Lives (g.S.Shelf.readers l.shelf) l.id;
  name : name_of (g.S.Shelf.readers l.shelf l.id) ≡ name_of (g.S.Shelf.readers l.fn.shelf l.id);
  living : g.S.Shelf.living l.shelf ≡ g.S.Shelf.living l.fn.shelf;
  told : g.S.Shelf.told l.shelf ≡ g.S.Shelf.told l.fn.shelf;
  later : (k : List ℕ) → g.S.Shelf.faults_at l.fn.shelf k ≤ g.S.Shelf.faults_at l.shelf k;
  others : OthersStand (g.S.Shelf.readers l.fn.shelf) (g.S.Shelf.readers l.shelf) l.id;
  same : l.self ≡ record l.fn.self { ahead = l.self.ahead };
  bytes : IfTold (left_of (g.S.Shelf.readers l.fn.shelf l.id)) (λ left. ReadsAhead l.fn.self l.self left (left_of (g.S.Shelf.readers l.shelf l.id)));
}

abbrev pub decreases-pieces : goal.decreases-pieces
decreases-pieces g l = input_limit + 1 - (l.self.given + length l.self.ahead)
