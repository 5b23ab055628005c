use Rattle.std.proofs.Common.{rules, ◌-◌, ℕ, List, length, take, drop, refl, sym, subst, arith, to_z, of_z, w64}
use Rattle.flow_types.specs.Records.{IsRecord}
use Rattle.packed_rows.specs.Packed.{is_above}
use Rattle.packed_rows.proofs.PackedLemmas.{HasFirst}
use Rattle.packed_rows.proofs.KeepLemmas.{first_left, kept_step}
use Rattle.packed_rows.proofs.frame.move_down.Goals as goal

pub split_first-requires-clause-head : goal.split_first-requires-clause-head
split_first-requires-clause-head c =
    let first : HasFirst c.args.schema.now (take (length c.loop-at.bytes - c.loop-at.at) (drop c.loop-at.at c.loop-at.bytes)) =
    first_left c.args.schema.now _ _ _ _ _ (length c.loop-at.bytes) c.loop-at.invariant refl (omega arith) in
    omega (arith, first.inside)

pub split_first-requires-clause-inside : goal.split_first-requires-clause-inside
split_first-requires-clause-inside c =
    (first_left c.args.schema.now _ _ _ _ _ (length c.loop-at.bytes) c.loop-at.invariant refl (omega arith)).inside

pub is_above-keep-requires-clause-whole : goal.is_above-keep-requires-clause-whole
is_above-keep-requires-clause-whole c =
    subst (λ (bytes : List ℕ). IsRecord c.args.schema.now bytes) (sym c.split_first.ensures.first)
    (first_left c.args.schema.now _ _ _ _ _ (length c.loop-at.bytes) c.loop-at.invariant refl (omega arith)).first

pub loop-at-preserved : goal.loop-at-preserved
loop-at-preserved c =
    kept_step c.args.schema.now (is_above c.args.field (to_z w64 (of_z w64 c.args.number))) c.args.bytes.now c.loop-at.bytes c.keep_if-kept.new.bytes
    c.split_first.result.0.now c.split_first.result.1.now c.loop-at.kept c.loop-at.at c.keep_if-kept.result
    (length c.loop-at.bytes - length c.split_first.result.1.now) (length c.loop-at.bytes) c.is_above-keep.result
    c.loop-at.invariant refl (omega arith) c.split_first.ensures.first c.split_first.ensures.behind refl
    c.is_above-keep.ensures
    c.keep_if-kept.ensures.front c.keep_if-kept.ensures.rest c.keep_if-kept.ensures.lower (search rules)
