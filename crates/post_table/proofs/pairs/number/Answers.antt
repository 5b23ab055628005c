use Rattle.std.proofs.Common.{ℕ, ◌+◌, ◌-◌, ◌*◌, ap}
use Rattle.post_table.specs.Pairs.{pair_number}
use Rattle.post_table.proofs.pairs.number.Goals as goal

pub returns : goal.returns
unfolding pair_number
returns c = ap (λ (z : ℕ). c.args.p * (c.args.workers - 1) + z) c.place-place.ensures.value
