use Rattle.std.proofs.Common.{◌≤◌, arith, ◌∙◌}
use Rattle.flow_types.specs.Types.{widest}
use Rattle.row_pipe.proofs.Typing.{opened_at}
use Rattle.row_pipe.proofs.row_pipe.RowPipe.open.Goals as goal

pub invariant_of-result : goal.invariant_of-result
invariant_of-result c =
    let small : widest c.args.node.now.schema ≤ 16384 = omega (arith, c.max_bytes-most_given.ensures.bytes, c.max_bytes-most_given.ensures.limit) in
    record {
      typed = (opened_at c.args.node.now c.in_ok-takes.takes c.in_ok-work.work (c.in_ok-takes.ensures ∙ c.taken.ensures) c.in_ok-work.ensures small c.requires.ranged c.requires.typed).0;
      small = omega (arith, c.max_bytes-most_taken.ensures.bytes, c.max_bytes-most_taken.ensures.limit);
    }

pub returns-clause-narrow : goal.returns-clause-narrow
returns-clause-narrow c =
    let small : widest c.args.node.now.schema ≤ 16384 = omega (arith, c.max_bytes-most_given.ensures.bytes, c.max_bytes-most_given.ensures.limit) in
    (opened_at c.args.node.now c.in_ok-takes.takes c.in_ok-work.work (c.in_ok-takes.ensures ∙ c.taken.ensures) c.in_ok-work.ensures small c.requires.ranged c.requires.typed).1
