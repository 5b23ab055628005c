use Rattle.std.proofs.Common.{w64}
use Rattle.std.proofs.lemmas.Int.{wrapping_add_is}
use Rattle.flow_types.proofs.arithmetic.sum.Goals as goal

pub returns : goal.returns
returns c = wrapping_add_is w64 _ _ c.ranges.a c.ranges.b
