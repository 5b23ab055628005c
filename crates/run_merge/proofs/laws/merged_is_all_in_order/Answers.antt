use Rattle.std.specs.List.{flat_map}
use Rattle.flow_types.proofs.BagBridges.{same-sort}
use Rattle.run_merge.proofs.MergeLemmas.{sort_ascends}
use Rattle.run_merge.proofs.laws.merged_is_all_in_order.Goals as goal

pub returns : goal.returns
returns g = record {
  ascends = λ cmp o lists. sort_ascends cmp o (flat_map (λ rows. rows) lists);
  same = λ cmp lists. same-sort cmp (flat_map (λ rows. rows) lists);
}
