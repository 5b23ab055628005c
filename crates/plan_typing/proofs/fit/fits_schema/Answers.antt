use Rattle.plan_typing.proofs.WidenLemmas.{fits_schema_length}
use Rattle.plan_typing.proofs.fit.fits_schema.Goals as goal

pub returns-then-from-into : goal.returns-then-from-into
returns-then-from-into c = fits_schema_length c.args.from.now c.args.into.now c.if-from-into.true
