-- Steps of loops that build a list row by row.
use Rattle.std.proofs.Common.{◌≡◌, ℕ, ◌+◌, ◌<◌, Bool, cond, List, [], ◌∷◌, ◌++◌, length, get_or, take, map, filter, sym, ap, ◌∙◌}
use Rattle.std.specs.List.{flat_map}
use Rattle.std.proofs.lemmas.List.{take_more, map_push}
use Rattle.std.proofs.lemmas.Grind.{flat_map-append}
use Rattle.std.proofs.lemmas.List.{append-nil}
use Rattle.std.proofs.lemmas.List.Elements.{filter-append}

-- one element more
pub take_step : {X : Type 0} (xs : List X) (i : ℕ) (x : X) → i < length xs → x ≡ get_or xs i x → take (i + 1) xs ≡ take i xs ++ x ∷ []
take_step xs i x h is = take_more xs i x h ∙ ap (λ y. take i xs ++ y ∷ []) (sym is)

module _ {X Y : Type 0} where
  -- a list of what a function makes of each
  pub map_step : (f : X → Y) (xs : List X) (i : ℕ) (x : X) (before after : List Y) → i < length xs → x ≡ get_or xs i x → before ≡ map f (take i xs) → after ≡ before ++ f x ∷ [] → after ≡ map f (take (i + 1) xs)
  map_step f xs i x before after h is so_far more =
      more ∙ ap (λ l. l ++ f x ∷ []) so_far ∙ sym (ap (map f) (take_step xs i x h is) ∙ map_push f (take i xs) x)

  -- a list of the rows that a function makes of each
  pub flat_map_step : (f : X → List Y) (xs : List X) (i : ℕ) (x : X) (before after : List Y) → i < length xs → x ≡ get_or xs i x → before ≡ flat_map f (take i xs) → after ≡ before ++ f x → after ≡ flat_map f (take (i + 1) xs)
  flat_map_step f xs i x before after h is so_far more =
      more
      ∙ ap (λ l. l ++ f x) so_far
      ∙ sym (ap (flat_map f) (take_step xs i x h is) ∙ flat_map-append f (take i xs) (x ∷ []) ∙ ap (λ l. flat_map f (take i xs) ++ l) (append-nil (f x)))

module _ {X : Type 0} (p : X → Bool) where
  filter_push : (xs : List X) (x : X) → filter p (xs ++ x ∷ []) ≡ filter p xs ++ cond (p x) (x ∷ []) []
  filter_push xs x = filter-append p xs (x ∷ [])

  -- a list of those that pass a test
  pub filter_step : (xs : List X) (i : ℕ) (x : X) (keep : Bool) (before after : List X) → i < length xs → x ≡ get_or xs i x → keep ≡ p x → before ≡ filter p (take i xs) → after ≡ before ++ cond keep (x ∷ []) [] → after ≡ filter p (take (i + 1) xs)
  filter_step xs i x keep before after h is test so_far more =
      more
      ∙ ap (λ b. before ++ cond b (x ∷ []) []) test
      ∙ ap (λ l. l ++ cond (p x) (x ∷ []) []) so_far
      ∙ sym (ap (filter p) (take_step xs i x h is) ∙ filter_push (take i xs) x)
