-- The next page is that of the next id.
use Rattle.std.proofs.Common.{◌≡◌, replicate, arith}
use Rattle.std.proofs.lemmas.List.FromFn.{map-range_with_len_more}
use Rattle.segment_core.specs.Segments.{blank_page}
use Rattle.segment_core.proofs.pool.fill.Goals as goal

pub loop-id-preserved : goal.loop-id-preserved
loop-id-preserved c =
    let more = map-range_with_len_more (blank_page c.args.size) 0 c.loop-id.id c.loop-id.id (omega arith) in
    let zeros : c.in_ok-bytes.bytes.items ≡ replicate c.args.size 0 = c.in_ok-bytes.ensures.items_if_clones_equal (λ y e. e) in
    record {
      made = cc;
      len = omega arith;
      capacity = omega arith;
    }
