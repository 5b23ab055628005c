use Rattle.std.proofs.Common.{◌≡◌, ℕ, ◌<◌, List, [], ◌∷◌, ◌++◌, length, sym, ◌∙◌, ap, subst, arith, append_assoc}
use Rattle.std.proofs.lemmas.Grind.{common_steps}
use Rattle.flow_types.specs.Tuples.{Tuple}
use Rattle.flow_types.specs.Records.{tuple_of, IsRecord}
use Rattle.packed_rows.specs.Packed.{first_record, rows_in, IsPacked}
use Rattle.packed_rows.proofs.PackedLemmas.{HasFirst, has_first}
use Rattle.packed_rows.proofs.rows.PackedRows.unpack.Goals as goal

pub decode-requires : goal.decode-requires
decode-requires c =
    let some : 0 < length c.loop-rest.rest.now = grind (arith, common_steps) in
    let front : HasFirst c.args.schema.now c.loop-rest.rest.now = has_first c.args.schema.now c.loop-rest.rest.now c.loop-rest.invariant.packed some in
    subst (λ (bytes : List ℕ). IsRecord c.args.schema.now bytes) (sym c.split_first.ensures.first) front.first

pub loop-rest-preserved : goal.loop-rest-preserved
loop-rest-preserved c =
    let some : 0 < length c.loop-rest.rest.now = grind (arith, common_steps) in
    let front : HasFirst c.args.schema.now c.loop-rest.rest.now = has_first c.args.schema.now c.loop-rest.rest.now c.loop-rest.invariant.packed some in
    let pushed : c.push.new.self.items ≡ c.loop-rest.rows.items ++ c.in_ok-decode.field-0 ∷ [] = grind (arith, common_steps) in
    let rest : List Tuple = rows_in c.args.schema.now c.split_first.result.1.now in
    record {
      packed = subst (λ (bytes : List ℕ). IsPacked c.args.schema.now bytes) (sym c.split_first.ensures.behind) front.behind;
      same = ap (λ (xs : List Tuple). xs ++ rest) pushed
          ∙ append_assoc c.loop-rest.rows.items (c.in_ok-decode.field-0 ∷ []) rest
          ∙ ap (λ (x : Tuple). c.loop-rest.rows.items ++ x ∷ rest) (c.in_ok-decode.ensures ∙ ap (tuple_of c.args.schema.now) c.split_first.ensures.first)
          ∙ ap (λ (bytes : List ℕ). c.loop-rest.rows.items ++ tuple_of c.args.schema.now (first_record c.loop-rest.rest.now) ∷ rows_in c.args.schema.now bytes) c.split_first.ensures.behind
          ∙ ap (λ (xs : List Tuple). c.loop-rest.rows.items ++ xs) (sym front.rows)
          ∙ c.loop-rest.invariant.same;
    }
