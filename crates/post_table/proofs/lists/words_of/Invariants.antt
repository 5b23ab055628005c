use Rattle.std.proofs.Common.{◌≡◌, ◌*◌, map, take, vec_len, vec_capacity}
use Rattle.segment_core.specs.Segments.{SegmentView}
use Rattle.post_table.proofs.lists.words_of.Given as goal

abbrev pub invariant-segments : goal.invariant-segments
invariant-segments l = record {
  words : l.words.items ≡ map (λ (segment : SegmentView). 2 * segment.id) (take l.segment-index l.slots);
  len : vec_len l.words ≡ l.segment-index;
  capacity : vec_capacity l.words ≡ vec_capacity l.fn.words;
}
