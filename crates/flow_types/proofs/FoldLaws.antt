-- Folds of rows in another order, and in parts.
use Rattle.std.proofs.Common.{◌≡◌, ℕ, List, [], ◌∷◌, ◌++◌, length, refl, sym, ap, ◌∙◌, arith, fold, Option, Some, None}
use Rattle.std.specs.Prelude.{ℤ, pos, ◌+ℤ◌}
use Rattle.std.specs.Int.{int_min, int_max, w64}
use Rattle.std.proofs.lemmas.Int.{ints, int_wrap-add_left, int_wrap-add_right}
use Rattle.std.proofs.lemmas.List.{append-nil, length-append}
use Rattle.std.proofs.lemmas.List.Sums.{fold-append}
use Rattle.flow_types.specs.declared.agg.Agg.{Agg}
use Rattle.flow_types.specs.declared.agg.Agg.TheVariants as agg
use Rattle.flow_types.specs.Tuples.{Tuple}
use Rattle.flow_types.specs.Expressions.{wrap}
use Rattle.flow_types.specs.Folds.{long_at, sum_of, lesser, greater, least_of, greatest_of, number_or, fold_of}
use Rattle.flow_types.specs.LawsOfFolds.{of_both, kept_of, merge_two, merged, empty_value, finished}
use Rattle.flow_types.specs.SameBags.{SameBag}
use Rattle.flow_types.proofs.BagLaws.{fold-same, length-same}
use Rattle.flow_types.proofs.ValueLemmas.{wrap_long, long-pos}

-- ---- two numbers as one

module _ (op : ℤ → ℤ → ℤ) where
  pub of_both-none : (p : Option ℤ) → of_both op p None ≡ p
  of_both-none None = refl
  of_both-none (Some m) = refl

  pub of_both-comm : ((m n : ℤ) → op m n ≡ op n m) → (p q : Option ℤ) → of_both op p q ≡ of_both op q p
  of_both-comm h None None = refl
  of_both-comm h None (Some n) = refl
  of_both-comm h (Some m) None = refl
  of_both-comm h (Some m) (Some n) = ap (λ k. Some k) (h m n)

  pub of_both-assoc : ((m n k : ℤ) → op (op m n) k ≡ op m (op n k)) → (p q r : Option ℤ) → of_both op (of_both op p q) r ≡ of_both op p (of_both op q r)
  of_both-assoc h None q r = refl
  of_both-assoc h (Some m) None r = refl
  of_both-assoc h (Some m) (Some n) None = refl
  of_both-assoc h (Some m) (Some n) (Some k) = ap (λ o. Some o) (h m n k)

  -- a fold that puts one number after the other to what it has
  module _ {X : Type 0} (f : X → ℤ) (step : Option ℤ → X → Option ℤ) (steps : (b : Option ℤ) (x : X) → step b x ≡ of_both op b (Some (f x))) (assoc : (m n k : ℤ) → op (op m n) k ≡ op m (op n k)) where
    both_from : (b : Option ℤ) (xs : List X) → fold step b xs ≡ of_both op b (fold step None xs)
    both_from b [] = sym (of_both-none b)
    both_from b (x ∷ xs) =
        both_from (step b x) xs ∙ ap (λ c. of_both op c (fold step None xs)) (steps b x) ∙ of_both-assoc assoc b (Some (f x)) (fold step None xs) ∙ ap (of_both op b) (ap (λ c. of_both op c (fold step None xs)) (sym (steps None x)) ∙ sym (both_from (step None x) xs))

    both-append : (xs ys : List X) → fold step None (xs ++ ys) ≡ of_both op (fold step None xs) (fold step None ys)
    both-append xs ys = fold-append step None xs ys ∙ both_from (fold step None xs) ys

    -- over some rows there is a number
    both_there : (x : X) (xs : List X) → (m : ℤ) × (fold step None (x ∷ xs) ≡ Some m)
    both_there x xs = go (fold step None xs) (both_from (step None x) xs ∙ ap (λ c. of_both op c (fold step None xs)) (steps None x))
      where
        go : (o : Option ℤ) → fold step None (x ∷ xs) ≡ of_both op (Some (f x)) o → (m : ℤ) × (fold step None (x ∷ xs) ≡ Some m)
        go None e = (f x, e)
        go (Some n) e = (op (f x) n, e)

-- ---- the least and the greatest

pub min_comm : (m n : ℤ) → int_min m n ≡ int_min n m
min_comm m n = grind (arith, ints)

pub min_assoc : (m n k : ℤ) → int_min (int_min m n) k ≡ int_min m (int_min n k)
min_assoc m n k = grind (arith, ints)

pub max_comm : (m n : ℤ) → int_max m n ≡ int_max n m
max_comm m n = grind (arith, ints)

pub max_assoc : (m n k : ℤ) → int_max (int_max m n) k ≡ int_max m (int_max n k)
max_assoc m n k = grind (arith, ints)

least_step : (i : ℕ) (b : Option ℤ) (t : Tuple) → Some (lesser b (long_at i t)) ≡ of_both int_min b (Some (long_at i t))
least_step i None t = refl
least_step i (Some m) t = refl

greatest_step : (i : ℕ) (b : Option ℤ) (t : Tuple) → Some (greater b (long_at i t)) ≡ of_both int_max b (Some (long_at i t))
greatest_step i None t = refl
greatest_step i (Some m) t = refl

pub least_of-append : (i : ℕ) (xs ys : List Tuple) → least_of i (xs ++ ys) ≡ of_both int_min (least_of i xs) (least_of i ys)
least_of-append i xs ys = both-append int_min (long_at i) (λ best t. Some (lesser best (long_at i t))) (least_step i) min_assoc xs ys

pub greatest_of-append : (i : ℕ) (xs ys : List Tuple) → greatest_of i (xs ++ ys) ≡ of_both int_max (greatest_of i xs) (greatest_of i ys)
greatest_of-append i xs ys = both-append int_max (long_at i) (λ best t. Some (greater best (long_at i t))) (greatest_step i) max_assoc xs ys

least_there : (i : ℕ) (t : Tuple) (rows : List Tuple) → (m : ℤ) × (least_of i (t ∷ rows) ≡ Some m)
least_there i t rows = both_there int_min (long_at i) (λ best t. Some (lesser best (long_at i t))) (least_step i) min_assoc t rows

greatest_there : (i : ℕ) (t : Tuple) (rows : List Tuple) → (m : ℤ) × (greatest_of i (t ∷ rows) ≡ Some m)
greatest_there i t rows = both_there int_max (long_at i) (λ best t. Some (greater best (long_at i t))) (greatest_step i) max_assoc t rows

-- ---- sums

sum_from : (i : ℕ) (a : ℤ) (rows : List Tuple) → fold (λ sum t. sum +ℤ long_at i t) a rows ≡ a +ℤ sum_of i rows
sum_from i a [] = omega (arith, ints)
sum_from i a (t ∷ rows) = omega (arith, ints, sum_from i (a +ℤ long_at i t) rows, sum_from i (pos 0 +ℤ long_at i t) rows)

pub sum_of-append : (i : ℕ) (xs ys : List Tuple) → sum_of i (xs ++ ys) ≡ sum_of i xs +ℤ sum_of i ys
sum_of-append i xs ys = fold-append (λ sum t. sum +ℤ long_at i t) (pos 0) xs ys ∙ sum_from i (sum_of i xs) ys

wrap_both : (m n : ℤ) → wrap (m +ℤ n) ≡ wrap (wrap m +ℤ wrap n)
wrap_both m n = sym (int_wrap-add_left w64 m (wrap n) ∙ int_wrap-add_right w64 m n)

wrap_comm : (m n : ℤ) → wrap (m +ℤ n) ≡ wrap (n +ℤ m)
wrap_comm m n = let e : m +ℤ n ≡ n +ℤ m = omega (arith, ints) in ap wrap e

wrap_assoc : (m n k : ℤ) → wrap (wrap (m +ℤ n) +ℤ k) ≡ wrap (m +ℤ wrap (n +ℤ k))
wrap_assoc m n k =
    let e : (m +ℤ n) +ℤ k ≡ m +ℤ (n +ℤ k) = omega (arith, ints) in
    int_wrap-add_left w64 (m +ℤ n) k ∙ ap wrap e ∙ sym (int_wrap-add_right w64 m (n +ℤ k))

length_both : (xs ys : List Tuple) → pos (length (xs ++ ys)) ≡ pos (length xs) +ℤ pos (length ys)
length_both xs ys = omega (arith, ints, length-append xs ys)

-- ---- what is kept of parts

pub merge_two-comm : (a : Agg) (m n : ℤ) → merge_two a m n ≡ merge_two a n m
merge_two-comm (agg.Sum i) m n = wrap_comm m n
merge_two-comm (agg.Min i e) m n = min_comm m n
merge_two-comm (agg.Max i e) m n = max_comm m n
merge_two-comm agg.Count m n = wrap_comm m n

pub merge_two-assoc : (a : Agg) (m n k : ℤ) → merge_two a (merge_two a m n) k ≡ merge_two a m (merge_two a n k)
merge_two-assoc (agg.Sum i) m n k = wrap_assoc m n k
merge_two-assoc (agg.Min i e) m n k = min_assoc m n k
merge_two-assoc (agg.Max i e) m n k = max_assoc m n k
merge_two-assoc agg.Count m n k = wrap_assoc m n k

-- of numbers that are there
two_there : (op : ℤ → ℤ → ℤ) (e : ℤ) (o p q : Option ℤ) → o ≡ of_both op p q → (m : ℤ) × (p ≡ Some m) → (n : ℤ) × (q ≡ Some n) → number_or e o ≡ op (number_or e p) (number_or e q)
two_there op e o p q h (m, left) (n, right) = cc

-- a fold over two groups of rows, neither of them empty
pub fold_of-append : (a : Agg) (t u : Tuple) (xs ys : List Tuple) → fold_of a ((t ∷ xs) ++ (u ∷ ys)) ≡ merge_two a (fold_of a (t ∷ xs)) (fold_of a (u ∷ ys))
fold_of-append (agg.Sum i) t u xs ys = ap wrap (sum_of-append i (t ∷ xs) (u ∷ ys)) ∙ wrap_both (sum_of i (t ∷ xs)) (sum_of i (u ∷ ys))
fold_of-append (agg.Min i e) t u xs ys =
    two_there int_min e _ _ _ (least_of-append i (t ∷ xs) (u ∷ ys)) (least_there i t xs) (least_there i u ys)
fold_of-append (agg.Max i e) t u xs ys =
    two_there int_max e _ _ _ (greatest_of-append i (t ∷ xs) (u ∷ ys)) (greatest_there i t xs) (greatest_there i u ys)
fold_of-append agg.Count t u xs ys =
    ap wrap (length_both (t ∷ xs) (u ∷ ys)) ∙ wrap_both (pos (length (t ∷ xs))) (pos (length (u ∷ ys)))

pub kept_of-append : (a : Agg) (xs ys : List Tuple) → kept_of a (xs ++ ys) ≡ merged a (kept_of a xs) (kept_of a ys)
kept_of-append a [] ys = refl
kept_of-append a (t ∷ xs) [] = ap (kept_of a) (append-nil (t ∷ xs))
kept_of-append a (t ∷ xs) (u ∷ ys) = ap (λ n. Some n) (fold_of-append a t u xs ys)

pub fold_of-nil : (a : Agg) → fold_of a [] ≡ empty_value a
fold_of-nil (agg.Sum i) = wrap_long (pos 0) (long-pos 0 (omega arith))
fold_of-nil (agg.Min i e) = refl
fold_of-nil (agg.Max i e) = refl
fold_of-nil agg.Count = wrap_long (pos 0) (long-pos 0 (omega arith))

pub fold_of_finished : (a : Agg) (rows : List Tuple) → fold_of a rows ≡ finished a (kept_of a rows)
fold_of_finished a [] = fold_of-nil a
fold_of_finished a (t ∷ rows) = refl

-- ---- rows in another order

lesser_swap : (b : Option ℤ) (m n : ℤ) → lesser (Some (lesser b m)) n ≡ lesser (Some (lesser b n)) m
lesser_swap None m n = min_comm m n
lesser_swap (Some b) m n = grind (arith, ints)

greater_swap : (b : Option ℤ) (m n : ℤ) → greater (Some (greater b m)) n ≡ greater (Some (greater b n)) m
greater_swap None m n = max_comm m n
greater_swap (Some b) m n = grind (arith, ints)

pub sum_of-same : (i : ℕ) {xs ys : List Tuple} → SameBag xs ys → sum_of i xs ≡ sum_of i ys
sum_of-same i s = fold-same (λ sum t. sum +ℤ long_at i t) (λ b t u. omega (arith, ints)) (pos 0) s

pub least_of-same : (i : ℕ) {xs ys : List Tuple} → SameBag xs ys → least_of i xs ≡ least_of i ys
least_of-same i s =
    fold-same (λ best t. Some (lesser best (long_at i t))) (λ b t u. ap (λ n. Some n) (lesser_swap b (long_at i t) (long_at i u))) None s

pub greatest_of-same : (i : ℕ) {xs ys : List Tuple} → SameBag xs ys → greatest_of i xs ≡ greatest_of i ys
greatest_of-same i s =
    fold-same (λ best t. Some (greater best (long_at i t))) (λ b t u. ap (λ n. Some n) (greater_swap b (long_at i t) (long_at i u))) None s

pub fold_of-same : (a : Agg) {xs ys : List Tuple} → SameBag xs ys → fold_of a xs ≡ fold_of a ys
fold_of-same (agg.Sum i) s = ap wrap (sum_of-same i s)
fold_of-same (agg.Min i e) s = ap (number_or e) (least_of-same i s)
fold_of-same (agg.Max i e) s = ap (number_or e) (greatest_of-same i s)
fold_of-same agg.Count s = ap (λ n. wrap (pos n)) (length-same s)

pub kept_of-same : (a : Agg) (xs ys : List Tuple) → SameBag xs ys → kept_of a xs ≡ kept_of a ys
kept_of-same a [] [] s = refl
kept_of-same a [] (u ∷ ys) s = absurd (omega (arith, length-same s))
kept_of-same a (t ∷ xs) [] s = absurd (omega (arith, length-same s))
kept_of-same a (t ∷ xs) (u ∷ ys) s = ap (λ n. Some n) (fold_of-same a s)
