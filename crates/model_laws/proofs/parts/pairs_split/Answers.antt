use Rattle.model_laws.proofs.PartLaws.{join_rows-parts, inner_rows-parts, alone-parts, cogroup_rows-parts, probe_rows-parts, merged-parts}
use Rattle.model_laws.proofs.parts.pairs_split.Goals as goal

pub returns : goal.returns
returns c n part_of low = record {
  joined = join_rows-parts part_of n low;
  pairs = inner_rows-parts part_of n low;
  without_partner = alone-parts part_of n low;
  cogrouped = cogroup_rows-parts part_of n low;
  probed = probe_rows-parts part_of n low;
  put_together = merged-parts part_of n low;
}
