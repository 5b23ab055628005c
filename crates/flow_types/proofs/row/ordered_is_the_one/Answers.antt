use Rattle.std.proofs.Common.{sym}
use Rattle.flow_types.specs.Tuples.{tuple_cmp}
use Rattle.flow_types.proofs.OrderLaws.{tuple_cmp_total, tuple_cmp_exact}
use Rattle.flow_types.proofs.SortLaws.{times-sort, sort_sorted, sort_by_unique}
use Rattle.flow_types.proofs.row.ordered_is_the_one.Goals as goal

pub returns : goal.returns
returns c = record {
  same = λ rows t. sym (times-sort tuple_cmp t rows);
  ascends = λ rows. sort_sorted tuple_cmp tuple_cmp_total rows;
  only = λ rows other same up. sort_by_unique tuple_cmp tuple_cmp_total tuple_cmp_exact rows other same up;
}
