use Rattle.model_laws.proofs.PairsFit.{join_rows-fit, cogroup_rows-fit, probe_rows-fit, merged-fit}
use Rattle.model_laws.proofs.schemas.pairs_fit.Goals as goal

pub returns : goal.returns
returns c = record {
  joined = join_rows-fit;
  cogrouped = cogroup_rows-fit;
  probed = λ lefts rights types held key columns rows e values g h. probe_rows-fit lefts rights types held key held.key columns rows e values g h;
  put_together = merged-fit;
}
