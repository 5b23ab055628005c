use Rattle.std.proofs.Common.{arith}
use Rattle.paged_view.proofs.FillLemmas.{body_stays}
use Rattle.paged_view.proofs.fill.add_record.Goals as goal

pub add_span-requires : goal.add_span-requires
add_span-requires g c =
    omega (arith, c.add_bytes.ensures.used, c.add_bytes.ensures.count, c.requires.room, body_stays c.args.page.now c.add_bytes.new.page c.add_bytes.ensures.same)
