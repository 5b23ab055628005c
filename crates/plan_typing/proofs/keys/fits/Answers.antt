use Rattle.flow_types.proofs.TupleLemmas.{fits_length}
use Rattle.plan_typing.proofs.keys.fits.Goals as goal

pub returns-then-fields-values : goal.returns-then-fields-values
returns-then-fields-values c = fits_length c.args.fields.now c.args.values.now c.if-fields-values.true
