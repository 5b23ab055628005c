-- The tests of equal values and tuples tell what is equal.
use Rattle.std.proofs.Common.{◌≡◌, true, refl, ap, subst}
use Rattle.std.specs.Bool.{Decides}
use Rattle.std.specs.Ordering.{is_eq}
use Rattle.std.specs.declared.cmp.Ordering.{Ordering}
use Rattle.std.specs.declared.cmp.Ordering.TheVariants.{Less, Equal, Greater}
use Rattle.std.proofs.lemmas.Cmp.{tied_itself}
use Rattle.flow_types.specs.declared.value.Value.{Value}
use Rattle.flow_types.specs.Values.{value_cmp, value_eq}
use Rattle.flow_types.specs.Tuples.{Tuple, tuple_cmp, tuple_eq}
use Rattle.flow_types.proofs.OrderLaws.{value_cmp_total, value_cmp_exact, tuple_cmp_total, tuple_cmp_exact}

tie_from_eq : (o : Ordering) → is_eq o ≡ true → o ≡ Equal
tie_from_eq Less h = cc
tie_from_eq Equal h = refl
tie_from_eq Greater h = cc

pub value_eq-refl : (v : Value) → value_eq v v ≡ true
value_eq-refl v = ap is_eq (tied_itself value_cmp_total v)

pub Decides-value_eq : (v w : Value) → Decides (value_eq v w) (v ≡ w)
Decides-value_eq v w =
    (λ h. value_cmp_exact v w (tie_from_eq (value_cmp v w) h), λ e. subst (λ u. value_eq v u ≡ true) e (value_eq-refl v))

pub tuple_eq-refl : (t : Tuple) → tuple_eq t t ≡ true
tuple_eq-refl t = ap is_eq (tied_itself tuple_cmp_total t)

pub Decides-tuple_eq : (t u : Tuple) → Decides (tuple_eq t u) (t ≡ u)
Decides-tuple_eq t u =
    (λ h. tuple_cmp_exact t u (tie_from_eq (tuple_cmp t u) h), λ e. subst (λ v. tuple_eq t v ≡ true) e (tuple_eq-refl t))
