use Rattle.std.proofs.Common.{ap, ◌∙◌, rules}
use Rattle.std.specs.List.{dedup}
use Rattle.std.proofs.lemmas.Fn.{dedup_same}
use Rattle.flow_types.specs.Tuples.{tuple_eq}
use Rattle.plain_ops.proofs.keys.keep_each_once.Goals as goal

pub returns : goal.returns
returns c =
    dedup_same _ tuple_eq _ (λ x y b f g h k. search rules) c.sort_rows.new.rows.items c.dedup_by.new.self.items c.dedup_by.ensures.filtered ∙ ap (dedup tuple_eq) c.in_ok-sort_rows.ensures
