-- What is true of each element of what steps over lists make.
use Rattle.std.proofs.Common.{◌≡◌, Bool, true, List, [], ◌∷◌, refl}
use Rattle.std.specs.Prelude.{All}
use Rattle.std.specs.List.{flat_map, list_all}
use Rattle.std.proofs.lemmas.List.Elements.{All-nil, All-cons, All-head, All-tail, All-append}
use Rattle.std.proofs.lemmas.List.Filters.{All-dedup}
use Rattle.std.proofs.lemmas.List.Sorted.{All-permutation}
use Rattle.std.specs.declared.cmp.Ordering.{Ordering}
use Rattle.flow_types.specs.Tuples.{Tuple, tuple_eq}
use Rattle.flow_types.specs.Bags.{ordered, sort_by}
use Rattle.flow_types.specs.SameBags.{SameBag}
use Rattle.flow_types.proofs.BagBridges.{permutation_from_same, same-sort, same-ordered}
use Rattle.flow_types.proofs.ValueLemmas.{both_true, both_pass}
use Rattle.flow_model.specs.Env.{Tuples}
use Rattle.flow_model.specs.Rows.{each_once}

pub All-same_bag : {X : Type 0} (P : X → Type 0) {xs ys : List X} → SameBag xs ys → All P xs → All P ys
All-same_bag P {xs} {ys} s h = All-permutation P xs ys (permutation_from_same s) h

pub All-sort : {X : Type 0} (P : X → Type 0) (cmp : X → X → Ordering) (xs : List X) → All P xs → All P (sort_by cmp xs)
All-sort P cmp xs h = All-same_bag P (same-sort cmp xs) h

pub All-once : (P : Tuple → Type 0) (xs : Tuples) → All P xs → All P (each_once xs)
All-once P xs h = All-dedup tuple_eq P (ordered xs) (All-same_bag P (same-ordered xs) h)

-- where what is made of each element passes, whatever the element
pub All-flat_map : {X Y : Type 0} (P : Y → Type 0) (f : X → List Y) → ((x : X) → All P (f x)) → (xs : List X) → All P (flat_map f xs)
All-flat_map P f h [] = All-nil P
All-flat_map P f h (x ∷ xs) = All-append P (f x) (flat_map f xs) (h x) (All-flat_map P f h xs)

-- where what is made of each element that passes passes
pub All-flat_map_of : {X Y : Type 0} (Q : X → Type 0) (P : Y → Type 0) (f : X → List Y) → ((x : X) → Q x → All P (f x)) → (xs : List X) → All Q xs → All P (flat_map f xs)
All-flat_map_of Q P f h [] q = All-nil P
All-flat_map_of Q P f h (x ∷ xs) q =
    All-append P (f x) (flat_map f xs) (h x (All-head Q x xs q)) (All-flat_map_of Q P f h xs (All-tail Q x xs q))

pub All_from_list_all : {X : Type 0} (p : X → Bool) (xs : List X) → list_all p xs ≡ true → All (λ x. p x ≡ true) xs
All_from_list_all p [] h = All-nil (λ x. p x ≡ true)
All_from_list_all p (x ∷ xs) h =
    let both = both_true (p x) (list_all p xs) h in
    All-cons (λ x. p x ≡ true) x xs both.0 (All_from_list_all p xs both.1)

pub list_all_from_All : {X : Type 0} (Q : X → Type 0) (p : X → Bool) → ((x : X) → Q x → p x ≡ true) → (xs : List X) → All Q xs → list_all p xs ≡ true
list_all_from_All Q p h [] q = refl
list_all_from_All Q p h (x ∷ xs) q =
    both_pass (p x) (list_all p xs) (h x (All-head Q x xs q)) (list_all_from_All Q p h xs (All-tail Q x xs q))
