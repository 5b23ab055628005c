use Rattle.std.proofs.Common.{rules}
use Rattle.std.proofs.lemmas.Fn.{always_returns_same}
use Rattle.std.proofs.lemmas.List.Sorted.{ranks_by}
use Rattle.flow_types.specs.Tuples.{key_of}
use Rattle.flow_types.proofs.OrderLaws.{tuple_cmp_total}
use Rattle.plain_ops.proofs.KeyPieces.{keeps_keys}
use Rattle.plain_ops.proofs.key_index.sort_by_key.Goals as goal

pub returns-in-Ok-clause-ascends : goal.returns-in-Ok-clause-ascends
returns-in-Ok-clause-ascends c =
    c.in-Ok.ensures.sorted _ (ranks_by tuple_cmp_total (key_of c.args.numbers.now)) (always_returns_same _ _ _ (λ a r f k. search rules))

pub returns-in-Ok-clause-keeps : goal.returns-in-Ok-clause-keeps
returns-in-Ok-clause-keeps c =
    keeps_keys c.args.numbers.now c.args.rows.now.items c.sort_by.new.self.items c.sort_by.ensures.permutation (c.sort_by.ensures.stable _ (ranks_by tuple_cmp_total (key_of c.args.numbers.now)) (always_returns_same _ _ _ (λ a r f k. search rules)))
