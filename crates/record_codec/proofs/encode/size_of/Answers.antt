use Rattle.flow_types.proofs.TupleLemmas.{fits_length}
use Rattle.record_codec.proofs.encode.size_of.Goals as goal

pub returns-then-fields-values-clause-fits : goal.returns-then-fields-values-clause-fits
returns-then-fields-values-clause-fits c = fits_length c.args.fields.now c.args.values.now c.if-fields-values.true
