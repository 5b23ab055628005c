-- Adding rows, and merging several parts.
use Rattle.std.proofs.Common.{◌≡◌, ℕ, List, [], ◌∷◌, ◌++◌, map, fold, refl, sym, ap, ◌∙◌, arith, append_assoc, append-nil, ℤ, pos, Option, Some, None}
use Rattle.std.specs.Prelude.{IsTrue, ◌+ℤ◌}
use Rattle.std.proofs.lemmas.Int.{ints}
use Rattle.std.specs.List.{list_all, flat_map}
use Rattle.flow_types.specs.declared.agg.Agg.{Agg}
use Rattle.flow_types.specs.declared.agg.Agg.TheVariants as agg
use Rattle.flow_types.specs.Values.{is_long, is_value}
use Rattle.flow_types.specs.Tuples.{Tuple}
use Rattle.flow_types.specs.Expressions.{wrap}
use Rattle.flow_types.specs.Folds.{long_at, fold_of}
use Rattle.flow_types.specs.LawsOfFolds.{merged, merge_two, kept_of, finished}
use Rattle.flow_types.specs.SameBags.{SameBag}
use Rattle.flow_types.proofs.BagLaws.{fold-same}
use Rattle.flow_types.proofs.FoldLaws.{of_both-none, of_both-comm, of_both-assoc, merge_two-comm, merge_two-assoc, kept_of-append, fold_of_finished}
use Rattle.flow_types.proofs.FoldLongs.{long-long_at}
use Rattle.flow_types.proofs.ValueLemmas.{both_true, both_pass, wrap_long, long-pos, long-zero}
use Rattle.fold_laws.specs.Parts.{one_row, added, added_all, merged_all, row_value, of_field}

-- ---- merging

pub merged-comm : (a : Agg) (p q : Option ℤ) → merged a p q ≡ merged a q p
merged-comm a p q = of_both-comm (merge_two a) (merge_two-comm a) p q

pub merged-assoc : (a : Agg) (p q r : Option ℤ) → merged a (merged a p q) r ≡ merged a p (merged a q r)
merged-assoc a p q r = of_both-assoc (merge_two a) (merge_two-assoc a) p q r

pub merged-none : (a : Agg) (p : Option ℤ) → merged a p None ≡ p
merged-none a p = of_both-none (merge_two a) p

merged-swap : (a : Agg) (p q r : Option ℤ) → merged a (merged a p q) r ≡ merged a (merged a p r) q
merged-swap a p q r = merged-assoc a p q r ∙ ap (merged a p) (merged-comm a q r) ∙ sym (merged-assoc a p r q)

pub any_order : (a : Agg) (ps qs : List (Option ℤ)) → SameBag ps qs → merged_all a ps ≡ merged_all a qs
any_order a ps qs same = fold-same (merged a) (merged-swap a) None same

-- what was kept of some rows, merged with the parts of pieces of others
pieces_onto : (a : Agg) (before : List Tuple) (pieces : List (List Tuple)) → fold (merged a) (kept_of a before) (map (kept_of a) pieces) ≡ kept_of a (before ++ flat_map (λ rows. rows) pieces)
pieces_onto a before [] = ap (kept_of a) (sym (append-nil before))
pieces_onto a before (piece ∷ pieces) =
    ap (λ p. fold (merged a) p (map (kept_of a) pieces)) (sym (kept_of-append a before piece))
    ∙ pieces_onto a (before ++ piece) pieces
    ∙ ap (kept_of a) (append_assoc before piece (flat_map (λ rows. rows) pieces))

pub of_pieces : (a : Agg) (pieces : List (List Tuple)) → merged_all a (map (kept_of a) pieces) ≡ kept_of a (flat_map (λ rows. rows) pieces)
of_pieces a pieces = pieces_onto a [] pieces

-- ---- adding

zero_plus : (n : ℤ) → pos 0 +ℤ n ≡ n
zero_plus n = omega (arith, ints)

-- the value of a fold over one row
one_row-is : (a : Agg) (t : Tuple) → IsTrue (is_long (row_value a t)) → fold_of a (t ∷ []) ≡ one_row a (row_value a t)
one_row-is (agg.Sum i) t long = ap wrap (zero_plus (long_at i t)) ∙ wrap_long (long_at i t) long
one_row-is (agg.Min i e) t long = refl
one_row-is (agg.Max i e) t long = refl
one_row-is agg.Count t long = wrap_long (pos 1) (long-pos 1 (omega arith))

pub alone : (a : Agg) (t : Tuple) → IsTrue (is_long (row_value a t)) → kept_of a (t ∷ []) ≡ Some (one_row a (row_value a t))
alone a t long = ap (λ n. Some n) (one_row-is a t long)

pub more : (a : Agg) (rows : List Tuple) (t : Tuple) → IsTrue (is_long (row_value a t)) → kept_of a (rows ++ t ∷ []) ≡ added a (kept_of a rows) (row_value a t)
more a rows t long = kept_of-append a rows (t ∷ []) ∙ ap (merged a (kept_of a rows)) (alone a t long)

pub any_value : (p : Option ℤ) (v w : ℤ) → added agg.Count p v ≡ added agg.Count p w
any_value p v w = refl

pub onward : (a : Agg) (before rows : List Tuple) → IsTrue (list_all is_long (map (row_value a) rows)) → added_all a (kept_of a before) (map (row_value a) rows) ≡ kept_of a (before ++ rows)
onward a before [] long = ap (kept_of a) (sym (append-nil before))
onward a before (t ∷ rows) long =
    let both = both_true (is_long (row_value a t)) (list_all is_long (map (row_value a) rows)) long in
    ap (λ p. added_all a p (map (row_value a) rows)) (sym (more a before t both.0))
    ∙ onward a (before ++ t ∷ []) rows both.1
    ∙ ap (kept_of a) (append_assoc before (t ∷ []) rows)

pub whole : (a : Agg) (rows : List Tuple) → IsTrue (list_all is_long (map (row_value a) rows)) → finished a (added_all a None (map (row_value a) rows)) ≡ fold_of a rows
whole a rows long = ap (finished a) (onward a [] rows long) ∙ sym (fold_of_finished a rows)

-- ---- rows that hold values

long-row_value : (a : Agg) (t : Tuple) → IsTrue (list_all is_value t) → IsTrue (is_long (row_value a t))
long-row_value (agg.Sum i) t held = long-long_at i t held
long-row_value (agg.Min i e) t held = long-long_at i t held
long-row_value (agg.Max i e) t held = long-long_at i t held
long-row_value agg.Count t held = long-zero

pub longs : (a : Agg) (rows : List Tuple) → IsTrue (list_all (list_all is_value) rows) → IsTrue (list_all is_long (map (row_value a) rows))
longs a [] held = refl
longs a (t ∷ rows) held =
    let both = both_true (list_all is_value t) (list_all (list_all is_value) rows) held in
    both_pass (is_long (row_value a t)) (list_all is_long (map (row_value a) rows)) (long-row_value a t both.0) (longs a rows both.1)

-- ---- the number of the field

pub merging : (k : ℕ) (a : Agg) (p q : Option ℤ) → merged (of_field k a) p q ≡ merged a p q
merging k (agg.Sum i) p q = refl
merging k (agg.Min i e) p q = refl
merging k (agg.Max i e) p q = refl
merging k agg.Count p q = refl

pub adding : (k : ℕ) (a : Agg) (p : Option ℤ) (v : ℤ) → added (of_field k a) p v ≡ added a p v
adding k (agg.Sum i) p v = refl
adding k (agg.Min i e) p v = refl
adding k (agg.Max i e) p v = refl
adding k agg.Count p v = refl

pub finishing : (k : ℕ) (a : Agg) (p : Option ℤ) → finished (of_field k a) p ≡ finished a p
finishing k a None = empty_same a
  where
    empty_same : (a : Agg) → finished (of_field k a) None ≡ finished a None
    empty_same (agg.Sum i) = refl
    empty_same (agg.Min i e) = refl
    empty_same (agg.Max i e) = refl
    empty_same agg.Count = refl
finishing k a (Some n) = refl
