use Rattle.std.proofs.Common.{rules, arith}
use Rattle.flow_outside.proofs.Living.{all_live}
use Rattle.flow_outside.proofs.slots.free_number.Goals as goal

pub unreachable-requires : goal.unreachable-requires
unreachable-requires g c =
    let all = all_live c.args.slots.now.items c.loop-number.number (search rules) (search rules) c.loop-number.invariant in
    omega arith
