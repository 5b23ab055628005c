use Rattle.std.proofs.Common.{◌∙◌, arith}
use Rattle.worked_post.proofs.crossing.move_some.Goals as goal

pub loop-preserved : goal.loop-preserved
loop-preserved g c =
    let inv = c.loop.invariant in
    let one = c.move_one.ensures in
    record {
      from_len = omega (arith, inv.from_len, one.from_len);
      to_len = omega (arith, inv.to_len, one.to_len);
      rooms = (one.rooms.0 ∙ inv.rooms.0, one.rooms.1 ∙ inv.rooms.1);
      sized = λ n from to. let both = inv.sized n from to in one.sized n both.0 both.1;
      segments = λ h. one.segments h ∙ inv.segments h;
    }
