use Rattle.std.proofs.Common.{rules}
use Rattle.std.proofs.lemmas.Fn.{always_returns_same}
use Rattle.std.proofs.lemmas.List.Sorted.{ranks_by}
use Rattle.flow_types.specs.Tuples.{rank_cmp}
use Rattle.flow_types.proofs.RankLaws.{rank_cmp_total, rank_cmp_exact}
use Rattle.flow_types.proofs.SortLaws.{sort_by_permutation}
use Rattle.plain_ops.proofs.rank.sort_by_rank.Goals as goal

pub returns-in-Ok : goal.returns-in-Ok
returns-in-Ok c =
    let order = c.args.order.now in
    sort_by_permutation (rank_cmp order) (rank_cmp_total order) (rank_cmp_exact order) c.args.rows.now.items c.sort_by.new.self.items c.sort_by.ensures.permutation (c.in-Ok.ensures.sorted _ (ranks_by (rank_cmp_total order) (λ x. x)) (always_returns_same _ _ _ (λ a r f k. search rules)))
