use Rattle.std.proofs.Common.{length, ap, arith}
use Rattle.paged_view.proofs.FillLemmas.{part_more, same_segment}
use Rattle.paged_view.proofs.fill.add_bytes.Goals as goal

pub returns-clause-used_bytes : goal.returns-clause-used_bytes
returns-clause-used_bytes c =
    part_more c.args.page.now c.write_at.new.page c.set_used.new.page c.used_bytes-filled.result.now c.args.bytes.now c.min-count.result
    c.requires c.used_bytes-filled.ensures.value (omega (arith, c.min-count.ensures, ap length c.body_of.ensures.value)) (omega (arith, c.min-count.ensures)) (omega (arith, c.if-count-eq0.false))
    c.write_at.ensures c.set_used.ensures.body c.set_used.ensures.used

pub returns-clause-same : goal.returns-clause-same
returns-clause-same c =
    same_segment c.args.page.now c.write_at.new.page c.set_used.new.page c.used_bytes-filled.result.now c.args.bytes.now c.min-count.result
    c.requires c.used_bytes-filled.ensures.value (omega (arith, c.min-count.ensures, ap length c.body_of.ensures.value)) (omega (arith, c.min-count.ensures)) (omega (arith, c.if-count-eq0.false))
    c.write_at.ensures c.set_used.ensures.same
