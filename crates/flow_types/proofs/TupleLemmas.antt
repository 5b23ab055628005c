-- Steps of loops over two lists side by side.
use Rattle.std.proofs.Common.{◌≡◌, ◌≢◌, ℕ, ◌≤◌, ◌⊎◌, inl, inr, false, true, Bool, ◌&&◌, List, [], ◌∷◌, length, drop, length-drop, refl, arith}
use Rattle.std.specs.Cmp.Lexicographic.{slice_cmp}
use Rattle.std.specs.Ordering.{nat_cmp}
use Rattle.std.specs.declared.cmp.Ordering.{Ordering}
use Rattle.std.proofs.lemmas.Bool.Decides.{nat_tests}
use Rattle.std.proofs.lemmas.List.{drop_all}
use Rattle.flow_types.specs.declared.value.Value.{Value}
use Rattle.flow_types.specs.declared.field_type.FieldType.{FieldType}
use Rattle.flow_types.specs.Types.{fits, fits_field}

module _ {X : Type 0} (cmp : X → X → Ordering) where
  slice_cmp-left : (ys : List X) → slice_cmp cmp [] ys ≡ nat_cmp 0 (length ys)
  slice_cmp-left [] = refl
  slice_cmp-left (y ∷ ys) = grind (arith, nat_tests)

  slice_cmp-right : (xs : List X) → slice_cmp cmp xs [] ≡ nat_cmp (length xs) 0
  slice_cmp-right [] = refl
  slice_cmp-right (x ∷ xs) = grind (arith, nat_tests)

  -- at the end of the shorter list the lengths decide
  pub slice_cmp_done : (xs ys : List X) (i : ℕ) → i ≤ length xs → i ≤ length ys → (length xs ≤ i) ⊎ (length ys ≤ i) → nat_cmp (length xs) (length ys) ≡ slice_cmp cmp (drop i xs) (drop i ys)
  slice_cmp_done xs ys i left right (inl short) =
      let e = slice_cmp-left (drop i ys) in
      let n = length-drop i ys in
      rw (drop_all i xs short) (rw e (grind (arith, nat_tests, n)))
  slice_cmp_done xs ys i left right (inr short) =
      let e = slice_cmp-right (drop i xs) in
      let n = length-drop i xs in
      rw (drop_all i ys short) (rw e (grind (arith, nat_tests, n)))

-- lists of different lengths don't fit
pub fits_length : (fields : List FieldType) (values : List Value) → length fields ≢ length values → false ≡ fits fields values
fits_length [] [] h = absurd (h refl)
fits_length [] (v ∷ vs) h = refl
fits_length (f ∷ fs) [] h = refl
fits_length (f ∷ fs) (v ∷ vs) h = go (fits_field f v) (fits_length fs vs (λ e. h (omega (arith, e))))
  where
    go : (b : Bool) → false ≡ fits fs vs → false ≡ (b && fits fs vs)
    go true e = e
    go false e = refl
