use Rattle.std.proofs.Common.{◌≡◌, vec_len, vec_capacity}
use Rattle.segment_core.specs.Segments.{blank_pages}
use Rattle.segment_core.proofs.pool.fill.Given as goal

abbrev pub invariant-loop-id : goal.invariant-loop-id
invariant-loop-id l = record {
  made : l.free.items ≡ blank_pages l.id l.size;
  len : vec_len l.free ≡ l.id;
  capacity : vec_capacity l.free ≡ vec_capacity l.initial.free;
}
