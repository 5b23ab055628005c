use Rattle.std.proofs.Common.{rules}
use Rattle.std.proofs.lemmas.List.Sorted.{ranks_by, answers_always}
use Rattle.flow_types.specs.Tuples.{tuple_cmp}
use Rattle.flow_types.proofs.OrderLaws.{tuple_cmp_total, tuple_cmp_exact}
use Rattle.flow_types.proofs.SortLaws.{sort_by_permutation}
use Rattle.flow_types.proofs.row.sort_rows.Goals as goal

pub returns-in-Ok : goal.returns-in-Ok
returns-in-Ok c =
    sort_by_permutation tuple_cmp tuple_cmp_total tuple_cmp_exact _ _ c.sort_by.ensures.permutation (c.in-Ok.ensures.sorted _ (ranks_by tuple_cmp_total (λ x. x)) (answers_always _ _ _ (λ f a r g h. search rules)))
