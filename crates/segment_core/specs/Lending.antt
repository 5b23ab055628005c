-- What a segment is after its bytes were lent to be written.
use Rattle.std.specs.Prelude.{ℕ, List, ◌++◌, length, take, drop}
use Rattle.std.specs.Borrow.{Lends, MutBor, Fml, Array, u8}
use Rattle.segment_core.specs.Segments.{SegmentView}
use Rattle.segment_core.specs.contracts.segment.Segment.{the_row}

-- The page with these bytes written over its own from the first on. It keeps its id and its number of
-- bytes.
abbrev pub with_bytes : SegmentView → List ℕ → SegmentView
with_bytes p written = record {
  id = p.id;
  bytes = take (length p.bytes) (written ++ drop (length written) p.bytes);
}

-- The segment ends with the bytes that were last written through the reference.
abbrev pub LendsBytes : MutBor SegmentView → MutBor (List ℕ) → Fml
LendsBytes s r = Lends the_row (Array u8 0) s r (with_bytes s.now)
