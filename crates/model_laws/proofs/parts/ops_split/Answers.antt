use Rattle.model_laws.proofs.PartLaws.{rows-parts, keyed-parts, keys_in-parts, distinct-parts, group_rows-parts, top_rows-parts, chosen-parts}
use Rattle.model_laws.proofs.parts.ops_split.Goals as goal

pub returns : goal.returns
returns c n part_of low = record {
  rows = rows-parts part_of n low;
  keyed = keyed-parts part_of n low;
  keys = keys_in-parts part_of n low;
  distinct = distinct-parts part_of n low;
  grouped = group_rows-parts part_of n low;
  topped = top_rows-parts part_of n low;
  choice = chosen-parts part_of n low;
}
