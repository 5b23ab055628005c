-- Filters and flat maps of lists: one inside another, and in parts by a number.
use Rattle.std.proofs.Common.{◌≡◌, ℕ, ◌<◌, Bool, true, false, cond, ◌&&◌, ◌||◌, ◌==◌, List, [], ◌∷◌, ◌++◌, map, filter, refl, sym, ap, ◌∙◌, arith, zero, suc}
use Rattle.std.specs.Prelude.{nat_lt}
use Rattle.std.specs.List.{flat_map}
use Rattle.std.proofs.lemmas.Bool.Decides.{nat_tests}
use Rattle.std.proofs.lemmas.List.{append-nil}
use Rattle.std.proofs.lemmas.List.Concat.{flat_map-append}
use Rattle.flow_types.specs.SameBags.{SameBag}
use Rattle.flow_types.proofs.BagLaws.{same-sym, same-from_equal, same-append_back, same-flat_map}
use Rattle.flow_types.proofs.BagSplits.{same-filter_split}
use Rattle.flow_model.specs.Full.{numbers_below}
use Rattle.model_laws.proofs.OpBags.{flat_map_both}

-- what a test keeps of what another keeps, where the first holds only where the second does
pub filter-implied : {X : Type 0} (p q : X → Bool) → ((x : X) → p x ≡ true → q x ≡ true) → (xs : List X) → filter p (filter q xs) ≡ filter p xs
filter-implied p q h [] = refl
filter-implied p q h (x ∷ xs) = go (p x) (q x) refl refl (h x) (filter-implied p q h xs)
  where
    go : (b c : Bool) → p x ≡ b → q x ≡ c → (p x ≡ true → q x ≡ true) → filter p (filter q xs) ≡ filter p xs → filter p (cond c (x ∷ filter q xs) (filter q xs)) ≡ cond b (x ∷ filter p xs) (filter p xs)
    go true true d e i s = ap (λ b. cond b (x ∷ filter p (filter q xs)) (filter p (filter q xs))) d ∙ ap (λ ys. x ∷ ys) s
    go true false d e i s = let f : q x ≡ true = i d in cc
    go false true d e i s = ap (λ b. cond b (x ∷ filter p (filter q xs)) (filter p (filter q xs))) d ∙ s
    go false false d e i s = s

-- where all pass
pub filter-all : {X : Type 0} (p : X → Bool) → ((x : X) → p x ≡ true) → (xs : List X) → filter p xs ≡ xs
filter-all p h [] = refl
filter-all p h (x ∷ xs) = ap (λ b. cond b (x ∷ filter p xs) (filter p xs)) (h x) ∙ ap (λ ys. x ∷ ys) (filter-all p h xs)

-- a test of what a function gives, before or after it
pub map-filter : {X Y : Type 0} (f : X → Y) (p : Y → Bool) (xs : List X) → map f (filter (λ x. p (f x)) xs) ≡ filter p (map f xs)
map-filter f p [] = refl
map-filter f p (x ∷ xs) = go (p (f x)) (map-filter f p xs)
  where
    go : (b : Bool) → map f (filter (λ x. p (f x)) xs) ≡ filter p (map f xs) → map f (cond b (x ∷ filter (λ x. p (f x)) xs) (filter (λ x. p (f x)) xs)) ≡ cond b (f x ∷ filter p (map f xs)) (filter p (map f xs))
    go true e = ap (λ ys. f x ∷ ys) e
    go false e = e

-- two functions that agree where a test holds
pub flat_map-filter_agree : {X Y : Type 0} (f g : X → List Y) (p : X → Bool) → ((x : X) → p x ≡ true → f x ≡ g x) → (xs : List X) → flat_map f (filter p xs) ≡ flat_map g (filter p xs)
flat_map-filter_agree f g p h [] = refl
flat_map-filter_agree f g p h (x ∷ xs) = go (p x) (h x) (flat_map-filter_agree f g p h xs)
  where
    go : (b : Bool) → (b ≡ true → f x ≡ g x) → flat_map f (filter p xs) ≡ flat_map g (filter p xs) → flat_map f (cond b (x ∷ filter p xs) (filter p xs)) ≡ flat_map g (cond b (x ∷ filter p xs) (filter p xs))
    go true i e = ap (λ ys. ys ++ flat_map f (filter p xs)) (i refl) ∙ ap (λ ys. g x ++ ys) e
    go false i e = e

pub flat_map-flat_map : {X Y Z : Type 0} (f : Y → List Z) (g : X → List Y) (xs : List X) → flat_map (λ x. flat_map f (g x)) xs ≡ flat_map f (flat_map g xs)
flat_map-flat_map f g [] = refl
flat_map-flat_map f g (x ∷ xs) =
    ap (λ zs. flat_map f (g x) ++ zs) (flat_map-flat_map f g xs) ∙ sym (flat_map-append f (g x) (flat_map g xs))

-- what a test keeps, as a flat map
abbrev pub listed_if : {X : Type 0} → Bool → X → List X
listed_if b x = cond b (x ∷ []) []

pub map-filter_is : {X Y : Type 0} (f : X → Y) (p : X → Bool) (xs : List X) → map f (filter p xs) ≡ flat_map (λ x. listed_if (p x) (f x)) xs
map-filter_is f p [] = refl
map-filter_is f p (x ∷ xs) = go (p x) (map-filter_is f p xs)
  where
    go : (b : Bool) → map f (filter p xs) ≡ flat_map (λ x. listed_if (p x) (f x)) xs → map f (cond b (x ∷ filter p xs) (filter p xs)) ≡ listed_if b (f x) ++ flat_map (λ x. listed_if (p x) (f x)) xs
    go true e = ap (λ ys. f x ∷ ys) e
    go false e = e

-- ---- in parts

module _ {X : Type 0} (f : X → ℕ) where
  below_more : (i n : ℕ) → nat_lt i (suc n) ≡ (nat_lt i n || (i == n))
  below_more i n = grind (arith, nat_tests)

  not_both : (i n : ℕ) → (nat_lt i n && (i == n)) ≡ false
  not_both i n = grind (arith, nat_tests)

  none_below : (xs : List X) → filter (λ x. nat_lt (f x) 0) xs ≡ []
  none_below [] = refl
  none_below (x ∷ xs) = let e : nat_lt (f x) 0 ≡ false = grind (arith, nat_tests) in ap (λ b. cond b (x ∷ filter (λ x. nat_lt (f x) 0) xs) (filter (λ x. nat_lt (f x) 0) xs)) e ∙ none_below xs

  -- the elements of each number below n are those whose number is below n
  pub parts_below : (n : ℕ) (xs : List X) → SameBag (flat_map (λ i. filter (λ x. f x == i) xs) (numbers_below n)) (filter (λ x. nat_lt (f x) n) xs)
  parts_below zero xs = same-from_equal (sym (none_below xs))
  parts_below (suc n) xs =
      let part : ℕ → List X = λ i. filter (λ x. f x == i) xs in
      SameBag.join
      (same-from_equal (flat_map-append part (numbers_below n) (n ∷ []) ∙ ap (λ ys. flat_map part (numbers_below n) ++ ys) (append-nil (part n))))
      (SameBag.join (same-append_back (part n) (parts_below n xs))
      (same-sym (same-filter_split (λ x. nat_lt (f x) (suc n)) (λ x. nat_lt (f x) n) (λ x. f x == n) (λ x. below_more (f x) n) (λ x. not_both (f x) n) xs)))

  module _ (n : ℕ) (low : (x : X) → f x < n) where
    passes : (x : X) → nat_lt (f x) n ≡ true
    passes x = let h : f x < n = low x in grind (arith, nat_tests)

    -- where all numbers are below n
    pub parts_whole : (xs : List X) → SameBag (flat_map (λ i. filter (λ x. f x == i) xs) (numbers_below n)) xs
    parts_whole xs = SameBag.join (parts_below n xs) (same-from_equal (filter-all (λ x. nat_lt (f x) n) passes xs))

    -- a walk in parts: over each part's elements what agrees there with what is done over all
    pub walk_in_parts : {Y : Type 0} (h : X → List Y) (part_h : ℕ → X → List Y) → ((i : ℕ) (x : X) → (f x == i) ≡ true → part_h i x ≡ h x) → (xs : List X) (part_xs : ℕ → List X) → ((i : ℕ) → part_xs i ≡ filter (λ x. f x == i) xs) → SameBag (flat_map (λ i. flat_map (part_h i) (part_xs i)) (numbers_below n)) (flat_map h xs)
    walk_in_parts h part_h agree xs part_xs parts =
        SameBag.join
        (same-from_equal
        (flat_map_both (λ i. flat_map (part_h i) (part_xs i)) (λ i. flat_map h (filter (λ x. f x == i) xs))
        (λ i. ap (flat_map (part_h i)) (parts i) ∙ flat_map-filter_agree (part_h i) h (λ x. f x == i) (agree i) xs) refl
        ∙ flat_map-flat_map h (λ i. filter (λ x. f x == i) xs) (numbers_below n)))
        (same-flat_map h (parts_whole xs))
