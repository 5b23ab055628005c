use Rattle.std.proofs.Common.{◌≡◌, drop}
use Rattle.flow_types.specs.Types.{fits}
use Rattle.plan_typing.proofs.keys.fits.Given as goal

abbrev pub invariant-loop-i : goal.invariant-loop-i
invariant-loop-i l = fits l.fields l.values ≡ fits (drop l.i l.fields) (drop l.i l.values)
