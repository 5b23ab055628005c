use Rattle.std.proofs.Common.{◌≡◌, true, false, take, sym, ap, subst, ◌∙◌, rules}
use Rattle.std.specs.List.Sorted.{IsPartitionPoint, IsPartitionedBy}
use Rattle.std.specs.Ordering.{is_lt, is_eq}
use Rattle.std.proofs.lemmas.List.{take_rest}
use Rattle.std.proofs.lemmas.List.Sorted.{IsPartitionPoint-from_clause}
use Rattle.plain_ops.proofs.KeyPieces.{beside, rises_beside, parted_below, parted_equal, piece_is}
use Rattle.plain_ops.proofs.key_index.rows_with_key.Goals as goal

pub returns : goal.returns
returns c =
    let rows = c.args.rows.now in
    let order = beside c.args.numbers.now c.args.key.now in
    let start = c.partition_point-start.result in
    let count = c.partition_point-count.result in
    let rises = rises_beside c.args.numbers.now c.args.key.now rows c.requires in
    let whole = take_rest rows start in
    let at = IsPartitionPoint-from_clause (λ t. is_lt (order t)) rows start c.partition_point-start.ensures.partitioned (parted_below order rows rises) (λ a r f k. search rules) in
    let parted = subst (IsPartitionedBy (λ t. is_eq (order t))) (sym whole) (parted_equal order rows rises start at) in
    let end = IsPartitionPoint-from_clause (λ t. is_eq (order t)) _ count c.partition_point-count.ensures.partitioned parted (λ a r f k. search rules) in
    ap (take count) whole ∙ piece_is order rows rises start at count (subst (λ l. IsPartitionPoint (λ t. is_eq (order t) ≡ true) (λ t. is_eq (order t) ≡ false) l count) whole end)
