use Rattle.std.proofs.Common.{◌∙◌}
use Rattle.plain_ops.proofs.KeyPieces.{key_ends, numbers_end}
use Rattle.plain_ops.proofs.key_index.compare_key.Goals as goal

pub returns-then-i-key : goal.returns-then-i-key
returns-then-i-key c =
    let inv = c.loop-i.invariant in
    key_ends c.args.numbers.now c.args.key.now c.args.tuple.now c.loop-i.i c.loop-i-test.true c.if-i-key.true inv.same

pub returns : goal.returns
returns c =
    let inv = c.loop-i.invariant in
    c.cmp.ensures ∙ numbers_end c.args.numbers.now c.args.key.now c.args.tuple.now c.loop-i.i c.loop-i.auto.i-end c.loop-i-test.false inv.within inv.same
