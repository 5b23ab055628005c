use Rattle.std.proofs.Common.{◌≡◌, drop}
use Rattle.flow_types.specs.Types.{fits}
use Rattle.flow_types.proofs.schema.fits.Given as goal

abbrev pub invariant-loop-i : goal.invariant-loop-i
invariant-loop-i l = fits l.fields l.values ≡ fits (drop l.i l.fields) (drop l.i l.values)
