-- The law of bags, whole: evaluated nodes under the same numbers with the same bags, and supersteps.
use Rattle.std.proofs.Common.{◌≡◌, ℕ, Bool, true, false, cond, ◌==◌, List, [], ◌∷◌, fold, refl, ap}
use Rattle.std.specs.List.{AllZip}
use Rattle.flow_types.specs.SameBags.{SameBag}
use Rattle.flow_types.proofs.BagLaws.{same-from_equal, same-flat_map_each}
use Rattle.flow_model.specs.declared.op.Op.{Op}
use Rattle.flow_model.specs.declared.op.Op.TheVariants as op
use Rattle.flow_model.specs.declared.plan.Node.{Node}
use Rattle.flow_model.specs.declared.made.Made.{Made}
use Rattle.flow_model.specs.Env.{Tuples}
use Rattle.flow_model.specs.Solutions.{Solution}
use Rattle.flow_model.specs.Algebra.{Env, rows_at, and_rows, given, nodes_of, plain_rows, body_step, superstep}
use Rattle.model_laws.proofs.OpBags.{map_rows-same, filter_rows-same, flat_map_rows-same, each_once-same, group_rows-same, top_rows-same, join_rows-same, cogroup_rows-same, probe_rows-same}
use Rattle.model_laws.proofs.Zips.{Zipped}

-- ---- evaluated nodes

-- rows under one number, the same bag
pub record SameMade (left right : Made) : Type 0 where
  pub number : left.number ≡ right.number
  pub rows : SameBag left.rows right.rows

abbrev pub SameEnv : Env → Env → Type 0
SameEnv = Zipped SameMade

pick-same : (b c : Bool) → b ≡ c → {us vs xs ys : Tuples} → SameBag us vs → SameBag xs ys → SameBag (cond b us xs) (cond c vs ys)
pick-same true true e s t = s
pick-same true false e s t = cc
pick-same false true e s t = cc
pick-same false false e s t = t

pub rows_at-same : {env other : Env} → Zipped SameMade env other → (n : ℕ) → SameBag (rows_at env n) (rows_at other n)
rows_at-same Zipped.none n = SameBag.none
rows_at-same (Zipped.more {x} {y} r z) n =
    pick-same (x.number == n) (y.number == n) (ap (λ m. m == n) r.number) r.rows (rows_at-same z n)

pub and_rows-same : {env other : Env} → Zipped SameMade env other → (n : ℕ) {xs ys : Tuples} → SameBag xs ys → Zipped SameMade (and_rows env n xs) (and_rows other n ys)
and_rows-same Zipped.none n s = Zipped.more (record { number = refl; rows = s }) Zipped.none
and_rows-same (Zipped.more r z) n s = Zipped.more r (and_rows-same z n s)

pub given-same : (numbers : List ℕ) (inputs others : List Tuples) → AllZip SameBag inputs others → Zipped SameMade (given numbers inputs) (given numbers others)
given-same [] inputs others h = Zipped.none
given-same (n ∷ numbers) [] [] h = Zipped.none
given-same (n ∷ numbers) [] (ys ∷ others) h = absurd h
given-same (n ∷ numbers) (xs ∷ inputs) [] h = absurd h
given-same (n ∷ numbers) (xs ∷ inputs) (ys ∷ others) h = Zipped.more (record { number = refl; rows = h.0 }) (given-same numbers inputs others h.1)

-- ---- nodes that are no iteration, and supersteps

module _ {inputs others : Env} (ins : Zipped SameMade inputs others) where
  module _ {env other : Env} (z : Zipped SameMade env other) where
    pub plain_rows-same : (held was : Solution) → held.key ≡ was.key → SameBag held.entries was.entries → (number : ℕ) (o : Op) → SameBag (plain_rows inputs held env number o) (plain_rows others was other number o)
    plain_rows-same held was e s number (op.Source fields delimiter) = rows_at-same ins number
    plain_rows-same held was e s number (op.Map input columns) = map_rows-same columns (rows_at-same z input)
    plain_rows-same held was e s number (op.Filter input test) = filter_rows-same test (rows_at-same z input)
    plain_rows-same held was e s number (op.FlatMap input rows) = flat_map_rows-same rows (rows_at-same z input)
    plain_rows-same held was e s number (op.Union names) = same-flat_map_each (rows_at env) (rows_at other) (rows_at-same z) names
    plain_rows-same held was e s number (op.Distinct input) = same-from_equal (each_once-same (rows_at-same z input))
    plain_rows-same held was e s number (op.Group input key aggs combine) = same-from_equal (group_rows-same key aggs (rows_at-same z input))
    plain_rows-same held was e s number (op.Top input key order count) = same-from_equal (top_rows-same key order count (rows_at-same z input))
    plain_rows-same held was e s number (op.Join left right left_key right_key columns kind left_default right_default) =
        join_rows-same kind left_key right_key columns left_default right_default (rows_at-same z left) (rows_at-same z right)
    plain_rows-same held was e s number (op.Cogroup left right left_key right_key left_aggs right_aggs) =
        same-from_equal (cogroup_rows-same left_key right_key left_aggs right_aggs (rows_at-same z left) (rows_at-same z right))
    plain_rows-same held was e s number (op.Bulk init bind most next until) = SameBag.none
    plain_rows-same held was e s number (op.Delta solution workset bind key order merge most delta next) = SameBag.none
    plain_rows-same held was e s number (op.Probe input key columns) = probe_rows-same held was key columns e s (rows_at-same z input)

  body_steps-same : (held was : Solution) → held.key ≡ was.key → SameBag held.entries was.entries → (nodes : List Node) {env other : Env} → Zipped SameMade env other → Zipped SameMade (fold (body_step inputs held) env nodes) (fold (body_step others was) other nodes)
  body_steps-same held was e s [] z = z
  body_steps-same held was e s (node ∷ nodes) z =
      body_steps-same held was e s nodes (and_rows-same z node.number (plain_rows-same z held was e s node.number node.op))

  pub superstep-same : (nodes : List Node) (held was : Solution) → held.key ≡ was.key → SameBag held.entries was.entries → {env other : Env} → Zipped SameMade env other → (number : ℕ) {xs ys : Tuples} → SameBag xs ys → Zipped SameMade (superstep inputs nodes held env number xs) (superstep others nodes was other number ys)
  superstep-same nodes held was e s z number t = body_steps-same held was e s (nodes_of number nodes) (and_rows-same z number t)
