use Rattle.std.proofs.Common.{◌≡◌, drop}
use Rattle.flow_model.specs.Schemas.{fits_schema}
use Rattle.plan_typing.proofs.fit.fits_schema.Given as goal

abbrev pub invariant-loop-i : goal.invariant-loop-i
invariant-loop-i l = fits_schema l.from l.into ≡ fits_schema (drop l.i l.from) (drop l.i l.into)
