-- What a fold gives is a Long's number.
use Rattle.std.proofs.Common.{ℕ, Bool, true, false, cond, List, [], ◌∷◌, length, refl, fold, Option, Some, None}
use Rattle.std.specs.Prelude.{IsTrue, ℤ, pos, int_lt}
use Rattle.std.specs.List.{list_all}
use Rattle.flow_types.specs.declared.agg.Agg.{Agg}
use Rattle.flow_types.specs.declared.agg.Agg.TheVariants as agg
use Rattle.flow_types.specs.Values.{is_long, is_value}
use Rattle.flow_types.specs.Tuples.{Tuple, field}
use Rattle.flow_types.specs.Folds.{long_at, sum_of, lesser, greater, least_of, greatest_of, number_or, fold_of}
use Rattle.flow_types.specs.LawsOfFolds.{states_long}
use Rattle.flow_types.proofs.ValueLemmas.{both_true, long-wrap, long-long_of, value-field}

-- a number that may be there is a Long's where it is
abbrev is_long_or_none : Option ℤ → Bool
is_long_or_none None = true
is_long_or_none (Some n) = is_long n

-- one of two numbers
long-of_two : (b : Bool) (m n : ℤ) → IsTrue (is_long m) → IsTrue (is_long n) → IsTrue (is_long (cond b m n))
long-of_two true m n p q = p
long-of_two false m n p q = q

long-lesser : (b : Option ℤ) (n : ℤ) → IsTrue (is_long_or_none b) → IsTrue (is_long n) → IsTrue (is_long (lesser b n))
long-lesser None n p q = q
long-lesser (Some m) n p q = long-of_two (int_lt n m) n m q p

long-greater : (b : Option ℤ) (n : ℤ) → IsTrue (is_long_or_none b) → IsTrue (is_long n) → IsTrue (is_long (greater b n))
long-greater None n p q = q
long-greater (Some m) n p q = long-of_two (int_lt n m) m n p q

-- along a fold whose step keeps a test, where the elements pass one
fold_passes : {X Y : Type 0} (p : Y → Bool) (q : X → Bool) (f : Y → X → Y) → ((b : Y) (x : X) → IsTrue (p b) → IsTrue (q x) → IsTrue (p (f b x))) → (b : Y) (xs : List X) → IsTrue (p b) → IsTrue (list_all q xs) → IsTrue (p (fold f b xs))
fold_passes p q f h b [] s t = s
fold_passes p q f h b (x ∷ xs) s t =
    let both = both_true (q x) (list_all q xs) t in
    fold_passes p q f h (f b x) xs (h b x s both.0) both.1

pub long-long_at : (i : ℕ) (t : Tuple) → IsTrue (list_all is_value t) → IsTrue (is_long (long_at i t))
long-long_at i t h = long-long_of (field i t) (value-field i t h)

long-number_or : (e : ℤ) (o : Option ℤ) → IsTrue (is_long e) → IsTrue (is_long_or_none o) → IsTrue (is_long (number_or e o))
long-number_or e None p q = p
long-number_or e (Some n) p q = q

pub long-fold_of : (a : Agg) (rows : List Tuple) → IsTrue (states_long a) → IsTrue (list_all (list_all is_value) rows) → IsTrue (is_long (fold_of a rows))
long-fold_of (agg.Sum i) rows s h = long-wrap (sum_of i rows)
long-fold_of (agg.Min i e) rows s h =
    long-number_or e (least_of i rows) s (fold_passes is_long_or_none (list_all is_value) (λ best t. Some (lesser best (long_at i t))) (λ b t p q. long-lesser b (long_at i t) p (long-long_at i t q)) None rows refl h)
long-fold_of (agg.Max i e) rows s h =
    long-number_or e (greatest_of i rows) s (fold_passes is_long_or_none (list_all is_value) (λ best t. Some (greater best (long_at i t))) (λ b t p q. long-greater b (long_at i t) p (long-long_at i t q)) None rows refl h)
long-fold_of agg.Count rows s h = long-wrap (pos (length rows))
