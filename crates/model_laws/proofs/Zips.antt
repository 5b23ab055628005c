-- Two lists whose elements are related place by place, and what is the same of them.
use Rattle.std.proofs.Common.{◌≡◌, ℕ, ◌+◌, List, [], ◌∷◌, ◌++◌, length, drop, refl, sym, ap, ◌∙◌, suc, sum_by}
use Rattle.std.specs.List.{flat_map}
use Rattle.std.proofs.lemmas.List.Sums.{sum_by-cons}

pub data Zipped {X Y : Type 0} (R : X → Y → Type 0) : List X → List Y → Type 0 where
  none : Zipped R [] []
  more : {x : X} {y : Y} {xs : List X} {ys : List Y} → R x y → Zipped R xs ys → Zipped R (x ∷ xs) (y ∷ ys)

module _ {X Y : Type 0} {R : X → Y → Type 0} where
  pub length-zipped : {xs : List X} {ys : List Y} → Zipped R xs ys → length xs ≡ length ys
  length-zipped Zipped.none = refl
  length-zipped (Zipped.more r z) = ap suc (length-zipped z)

  -- but for the first
  pub tail_length-zipped : {xs : List X} {ys : List Y} → Zipped R xs ys → length (drop 1 xs) ≡ length (drop 1 ys)
  tail_length-zipped Zipped.none = refl
  tail_length-zipped (Zipped.more r z) = length-zipped z

  pub sum_by-zipped : (f : X → ℕ) (g : Y → ℕ) → ((x : X) (y : Y) → R x y → f x ≡ g y) → {xs : List X} {ys : List Y} → Zipped R xs ys → sum_by f xs ≡ sum_by g ys
  sum_by-zipped f g h Zipped.none = refl
  sum_by-zipped f g h (Zipped.more {x} {y} {xs} {ys} r z) =
      sum_by-cons f x xs ∙ ap (λ n. n + sum_by f xs) (h x y r) ∙ ap (λ n. g y + n) (sum_by-zipped f g h z) ∙ sym (sum_by-cons g y ys)

  pub flat_map-zipped : {Z : Type 0} (f : X → List Z) (g : Y → List Z) → ((x : X) (y : Y) → R x y → f x ≡ g y) → {xs : List X} {ys : List Y} → Zipped R xs ys → flat_map f xs ≡ flat_map g ys
  flat_map-zipped f g h Zipped.none = refl
  flat_map-zipped f g h (Zipped.more {x} {y} {xs} {ys} r z) =
      ap (λ zs. zs ++ flat_map f xs) (h x y r) ∙ ap (λ zs. g y ++ zs) (flat_map-zipped f g h z)
