use Rattle.flow_types.proofs.BagSplits.{same-filter_split, same-flat_map_append, same-flat_map_comm}
use Rattle.flow_types.proofs.laws.bags_split.Goals as goal

pub returns : goal.returns
returns g c = record {
  filtered = same-filter_split;
  appended = same-flat_map_append;
  nested = same-flat_map_comm;
}
