-- `value_cmp` and `tuple_cmp` are total orders in which only equal values tie.
use Rattle.std.proofs.Common.{◌≡◌, ℕ, Bool, true, false, [], ◌∷◌, refl, sym, ap, subst}
use Rattle.std.specs.Cmp.{IsTotalOrder, bool_cmp_total}
use Rattle.std.specs.Cmp.Lexicographic.{slice_cmp}
use Rattle.std.specs.Ordering.{nat_cmp, int_cmp, bool_cmp, on, then_cmp, ordering_then}
use Rattle.std.specs.declared.cmp.Ordering.{Ordering}
use Rattle.std.specs.declared.cmp.Ordering.TheVariants.{Less, Equal, Greater}
use Rattle.std.proofs.lemmas.Cmp.{nat_cmp_total, int_cmp_total, nat_list_cmp_total, then_total, on_total, lists_total}
use Rattle.std.proofs.lemmas.Map.Lookups.{CmpEqualImpliesEq, exact_signed, exact_bytes}
use Rattle.flow_types.specs.declared.value.Value.{Value}
use Rattle.flow_types.specs.declared.value.Value.TheVariants as value
use Rattle.flow_types.specs.Values.{value_cmp, long_of, flag_of, bytes_of}
use Rattle.flow_types.specs.Tuples.{tuple_cmp}

-- the place of a value's kind
abbrev kind : Value → ℕ
kind (value.Long n) = 0
kind (value.Bool b) = 1
kind (value.Str s) = 2

-- the order of values, part by part
abbrev by_parts : Value → Value → Ordering
by_parts = then_cmp (on kind nat_cmp) (then_cmp (on long_of int_cmp) (then_cmp (on flag_of bool_cmp) (on bytes_of (slice_cmp nat_cmp))))

then_equal : (o : Ordering) → o ≡ ordering_then o Equal
then_equal Less = refl
then_equal Equal = refl
then_equal Greater = refl

agree : (x y : Value) → value_cmp x y ≡ by_parts x y
agree (value.Long a) (value.Long b) = then_equal (int_cmp a b)
agree (value.Long a) (value.Bool b) = refl
agree (value.Long a) (value.Str b) = refl
agree (value.Bool a) (value.Long b) = refl
agree (value.Bool a) (value.Bool b) = then_equal (bool_cmp a b)
agree (value.Bool a) (value.Str b) = refl
agree (value.Str a) (value.Long b) = refl
agree (value.Str a) (value.Bool b) = refl
agree (value.Str a) (value.Str b) = refl

pub value_cmp_total : IsTotalOrder value_cmp
value_cmp_total =
    subst IsTotalOrder (sym (λ i x y. agree x y i)) (then_total (on_total kind nat_cmp_total) (then_total (on_total long_of int_cmp_total) (then_total (on_total flag_of bool_cmp_total) (on_total bytes_of nat_list_cmp_total))))

bools_exact : (a b : Bool) → bool_cmp a b ≡ Equal → a ≡ b
bools_exact false false e = refl
bools_exact false true e = cc
bools_exact true false e = cc
bools_exact true true e = refl

pub value_cmp_exact : CmpEqualImpliesEq value_cmp
value_cmp_exact (value.Long a) (value.Long b) e = ap value.Long (exact_signed a b e)
value_cmp_exact (value.Long a) (value.Bool b) e = cc
value_cmp_exact (value.Long a) (value.Str b) e = cc
value_cmp_exact (value.Bool a) (value.Long b) e = cc
value_cmp_exact (value.Bool a) (value.Bool b) e = ap value.Bool (bools_exact a b e)
value_cmp_exact (value.Bool a) (value.Str b) e = cc
value_cmp_exact (value.Str a) (value.Long b) e = cc
value_cmp_exact (value.Str a) (value.Bool b) e = cc
value_cmp_exact (value.Str a) (value.Str b) e = ap value.Str (exact_bytes a b e)

-- the two parts of a chain of orders that ties
pub then_ties : (o p : Ordering) → ordering_then o p ≡ Equal → (o ≡ Equal) × (p ≡ Equal)
then_ties Less p e = cc
then_ties Equal p e = (refl, e)
then_ties Greater p e = cc

pub lists_exact : {X : Type 0} (cmp : X → X → Ordering) → CmpEqualImpliesEq cmp → CmpEqualImpliesEq (slice_cmp cmp)
lists_exact cmp exact [] [] e = refl
lists_exact cmp exact [] (y ∷ ys) e = cc
lists_exact cmp exact (x ∷ xs) [] e = cc
lists_exact cmp exact (x ∷ xs) (y ∷ ys) e =
    let both = then_ties (cmp x y) (slice_cmp cmp xs ys) e in
    let head : x ≡ y = exact x y both.0 in
    let tail : xs ≡ ys = lists_exact cmp exact xs ys both.1 in
    cc

pub tuple_cmp_total : IsTotalOrder tuple_cmp
tuple_cmp_total = lists_total value_cmp_total

pub tuple_cmp_exact : CmpEqualImpliesEq tuple_cmp
tuple_cmp_exact = lists_exact value_cmp value_cmp_exact
