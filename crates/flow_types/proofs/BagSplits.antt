-- Bags in parts: a filter in two, appended functions, and one walk inside another.
use Rattle.std.proofs.Common.{◌≡◌, Bool, true, false, cond, ◌&&◌, ◌||◌, List, [], ◌∷◌, ◌++◌, sym, filter, append_assoc}
use Rattle.std.specs.List.{flat_map}
use Rattle.flow_types.specs.SameBags.{SameBag}
use Rattle.flow_types.proofs.BagLaws.{same-sym, same-from_equal, same-append_front, same-append_swap, same-middle}

-- an element that one of two tests keeps, exactly one where it is kept
split_step : {X : Type 0} (p q r : Bool) (x : X) (xs ys zs : List X) → p ≡ (q || r) → (q && r) ≡ false → SameBag xs (ys ++ zs) → SameBag (cond p (x ∷ xs) xs) (cond q (x ∷ ys) ys ++ cond r (x ∷ zs) zs)
split_step true true false x xs ys zs e f s = SameBag.head s
split_step true false true x xs ys zs e f s = SameBag.join (SameBag.head s) (same-sym (same-middle ys x zs))
split_step false false false x xs ys zs e f s = s
split_step true true true x xs ys zs e f s = cc
split_step true false false x xs ys zs e f s = cc
split_step false true r x xs ys zs e f s = cc
split_step false false true x xs ys zs e f s = cc

-- what a test keeps, in two: what one of two tests keeps and what the other does, where none is kept by both
pub same-filter_split : {X : Type 0} (p q r : X → Bool) → ((x : X) → p x ≡ (q x || r x)) → ((x : X) → (q x && r x) ≡ false) → (xs : List X) → SameBag (filter p xs) (filter q xs ++ filter r xs)
same-filter_split p q r either apart [] = SameBag.none
same-filter_split p q r either apart (x ∷ xs) =
    split_step (p x) (q x) (r x) x (filter p xs) (filter q xs) (filter r xs) (either x) (apart x) (same-filter_split p q r either apart xs)

-- two lists for each element, one after the other
pub same-flat_map_append : {X Y : Type 0} (f g : X → List Y) (xs : List X) → SameBag (flat_map (λ x. f x ++ g x) xs) (flat_map f xs ++ flat_map g xs)
same-flat_map_append f g [] = SameBag.none
same-flat_map_append f g (x ∷ xs) =
    SameBag.join (same-append_front (f x ++ g x) (same-flat_map_append f g xs)) (SameBag.join (same-from_equal (append_assoc (f x) (g x) (flat_map f xs ++ flat_map g xs))) (SameBag.join (same-append_front (f x) (same-append_swap (g x) (flat_map f xs) (flat_map g xs))) (same-from_equal (sym (append_assoc (f x) (flat_map f xs) (g x ++ flat_map g xs))))))

flat_map_nothing : {X Y : Type 0} (xs : List X) → SameBag {X = Y} (flat_map (λ x. []) xs) []
flat_map_nothing [] = SameBag.none
flat_map_nothing (x ∷ xs) = flat_map_nothing xs

-- pairs from two lists, whichever list is walked outside
pub same-flat_map_comm : {X Y Z : Type 0} (f : X → Y → List Z) (xs : List X) (ys : List Y) → SameBag (flat_map (λ x. flat_map (f x) ys) xs) (flat_map (λ y. flat_map (λ x. f x y) xs) ys)
same-flat_map_comm f [] ys = same-sym (flat_map_nothing ys)
same-flat_map_comm f (x ∷ xs) ys =
    SameBag.join (same-append_front (flat_map (f x) ys) (same-flat_map_comm f xs ys)) (same-sym (same-flat_map_append (f x) (λ y. flat_map (λ z. f z y) xs) ys))
