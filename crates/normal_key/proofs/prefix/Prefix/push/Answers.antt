use Rattle.std.proofs.Common.{arith}
use Rattle.normal_key.proofs.WrittenLemmas.{pushed_filled}
use Rattle.normal_key.proofs.prefix.Prefix.push.Goals as goal

pub invariant_of-self : goal.invariant_of-self
invariant_of-self c = (
  omega (arith, c.if-self-lt16.true),
  pushed_filled c.self.inside.bytes c.self.inside.len c.args.byte c.self.told c.if-self-lt16.true c.self.invariant.1,
)
