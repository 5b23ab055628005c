-- What lists that are the same bag have in common, and the steps that keep it.
use Rattle.std.proofs.Common.{◌≡◌, ℕ, ◌+◌, Bool, true, false, cond, ◌&&◌, ◌||◌, List, [], ◌∷◌, ◌++◌, length, map, refl, sym, ap, ◌∙◌, subst, arith, suc, fold, filter, count_by, sum_by, append_assoc}
use Rattle.std.specs.List.{flat_map, list_all, list_any}
use Rattle.std.proofs.lemmas.List.{append-nil}
use Rattle.flow_types.specs.SameBags.{SameBag}

pub same-refl : {X : Type 0} (xs : List X) → SameBag xs xs
same-refl [] = SameBag.none
same-refl (x ∷ xs) = SameBag.head (same-refl xs)

pub same-sym : {X : Type 0} {xs ys : List X} → SameBag xs ys → SameBag ys xs
same-sym SameBag.none = SameBag.none
same-sym (SameBag.head s) = SameBag.head (same-sym s)
same-sym SameBag.swap = SameBag.swap
same-sym (SameBag.join s t) = SameBag.join (same-sym t) (same-sym s)

-- equal lists are the same bag
pub same-from_equal : {X : Type 0} {xs ys : List X} → xs ≡ ys → SameBag xs ys
same-from_equal {X} {xs} {ys} e = subst (SameBag xs) e (same-refl xs)

pub same-append_front : {X : Type 0} (zs : List X) {xs ys : List X} → SameBag xs ys → SameBag (zs ++ xs) (zs ++ ys)
same-append_front [] s = s
same-append_front (z ∷ zs) s = SameBag.head (same-append_front zs s)

pub same-append_back : {X : Type 0} {xs ys : List X} (zs : List X) → SameBag xs ys → SameBag (xs ++ zs) (ys ++ zs)
same-append_back zs SameBag.none = same-refl zs
same-append_back zs (SameBag.head s) = SameBag.head (same-append_back zs s)
same-append_back zs SameBag.swap = SameBag.swap
same-append_back zs (SameBag.join s t) = SameBag.join (same-append_back zs s) (same-append_back zs t)

pub same-append : {X : Type 0} {xs ys us vs : List X} → SameBag xs ys → SameBag us vs → SameBag (xs ++ us) (ys ++ vs)
same-append {X} {xs} {ys} {us} {vs} s t = SameBag.join (same-append_back us s) (same-append_front ys t)

-- an element from the middle to the front
pub same-middle : {X : Type 0} (xs : List X) (x : X) (ys : List X) → SameBag (xs ++ x ∷ ys) (x ∷ (xs ++ ys))
same-middle [] x ys = same-refl (x ∷ ys)
same-middle (z ∷ zs) x ys = SameBag.join (SameBag.head (same-middle zs x ys)) SameBag.swap

pub same-append_comm : {X : Type 0} (xs ys : List X) → SameBag (xs ++ ys) (ys ++ xs)
same-append_comm [] ys = same-from_equal (sym (append-nil ys))
same-append_comm (x ∷ xs) ys = SameBag.join (SameBag.head (same-append_comm xs ys)) (same-sym (same-middle ys x xs))

-- the first two of three lists in each other's place
pub same-append_swap : {X : Type 0} (xs ys zs : List X) → SameBag (xs ++ (ys ++ zs)) (ys ++ (xs ++ zs))
same-append_swap xs ys zs =
    SameBag.join (same-from_equal (sym (append_assoc xs ys zs))) (SameBag.join (same-append_back zs (same-append_comm xs ys)) (same-from_equal (append_assoc ys xs zs)))

pub same-map : {X Y : Type 0} (f : X → Y) {xs ys : List X} → SameBag xs ys → SameBag (map f xs) (map f ys)
same-map f SameBag.none = SameBag.none
same-map f (SameBag.head s) = SameBag.head (same-map f s)
same-map f SameBag.swap = SameBag.swap
same-map f (SameBag.join s t) = SameBag.join (same-map f s) (same-map f t)

-- an element before a list, where a test keeps it
abbrev kept : {X : Type 0} → Bool → X → List X → List X
kept b x xs = cond b (x ∷ xs) xs

kept_more : {X : Type 0} (b : Bool) (x : X) {xs ys : List X} → SameBag xs ys → SameBag (kept b x xs) (kept b x ys)
kept_more true x s = SameBag.head s
kept_more false x s = s

kept_swap : {X : Type 0} (b c : Bool) (x y : X) (xs : List X) → SameBag (kept b x (kept c y xs)) (kept c y (kept b x xs))
kept_swap true true x y xs = SameBag.swap
kept_swap true false x y xs = same-refl (x ∷ xs)
kept_swap false c x y xs = same-refl (kept c y xs)

pub same-filter : {X : Type 0} (p : X → Bool) {xs ys : List X} → SameBag xs ys → SameBag (filter p xs) (filter p ys)
same-filter p SameBag.none = SameBag.none
same-filter p (SameBag.head {x} s) = kept_more (p x) x (same-filter p s)
same-filter p (SameBag.swap {x} {y} {xs}) = kept_swap (p x) (p y) x y (filter p xs)
same-filter p (SameBag.join s t) = SameBag.join (same-filter p s) (same-filter p t)

pub same-flat_map : {X Y : Type 0} (f : X → List Y) {xs ys : List X} → SameBag xs ys → SameBag (flat_map f xs) (flat_map f ys)
same-flat_map f SameBag.none = SameBag.none
same-flat_map f (SameBag.head {x} s) = same-append_front (f x) (same-flat_map f s)
same-flat_map f (SameBag.swap {x} {y} {xs}) = same-append_swap (f x) (f y) (flat_map f xs)
same-flat_map f (SameBag.join s t) = SameBag.join (same-flat_map f s) (same-flat_map f t)

-- two functions that give the same bags, over one list
pub same-flat_map_each : {X Y : Type 0} (f g : X → List Y) → ((x : X) → SameBag (f x) (g x)) → (xs : List X) → SameBag (flat_map f xs) (flat_map g xs)
same-flat_map_each f g h [] = SameBag.none
same-flat_map_each f g h (x ∷ xs) = same-append (h x) (same-flat_map_each f g h xs)

pub same-flat_map_both : {X Y : Type 0} (f g : X → List Y) → ((x : X) → SameBag (f x) (g x)) → {xs ys : List X} → SameBag xs ys → SameBag (flat_map f xs) (flat_map g ys)
same-flat_map_both f g h {xs} {ys} s = SameBag.join (same-flat_map f s) (same-flat_map_each f g h ys)

-- a fold whose step commutes
pub fold-same : {X Y : Type 0} (f : Y → X → Y) → ((b : Y) (x y : X) → f (f b x) y ≡ f (f b y) x) → (a : Y) {xs ys : List X} → SameBag xs ys → fold f a xs ≡ fold f a ys
fold-same f h a SameBag.none = refl
fold-same f h a (SameBag.head {x} s) = fold-same f h (f a x) s
fold-same f h a (SameBag.swap {x} {y} {xs}) = ap (λ b. fold f b xs) (h a x y)
fold-same f h a (SameBag.join s t) = fold-same f h a s ∙ fold-same f h a t

pub sum_by-same : {X : Type 0} (f : X → ℕ) {xs ys : List X} → SameBag xs ys → sum_by f xs ≡ sum_by f ys
sum_by-same f s = fold-same (λ sum x. sum + f x) (λ b x y. omega arith) 0 s

pub count_by-same : {X : Type 0} (p : X → Bool) {xs ys : List X} → SameBag xs ys → count_by p xs ≡ count_by p ys
count_by-same p s = sum_by-same (λ x. cond (p x) 1 0) s

pub length-same : {X : Type 0} {xs ys : List X} → SameBag xs ys → length xs ≡ length ys
length-same SameBag.none = refl
length-same (SameBag.head s) = ap suc (length-same s)
length-same SameBag.swap = refl
length-same (SameBag.join s t) = length-same s ∙ length-same t

and_swap : (a b c : Bool) → (a && (b && c)) ≡ (b && (a && c))
and_swap true b c = refl
and_swap false true c = refl
and_swap false false c = refl

or_swap : (a b c : Bool) → (a || (b || c)) ≡ (b || (a || c))
or_swap false b c = refl
or_swap true true c = refl
or_swap true false c = refl

pub list_all-same : {X : Type 0} (p : X → Bool) {xs ys : List X} → SameBag xs ys → list_all p xs ≡ list_all p ys
list_all-same p SameBag.none = refl
list_all-same p (SameBag.head {x} s) = ap (λ b. p x && b) (list_all-same p s)
list_all-same p (SameBag.swap {x} {y} {xs}) = and_swap (p x) (p y) (list_all p xs)
list_all-same p (SameBag.join s t) = list_all-same p s ∙ list_all-same p t

pub list_any-same : {X : Type 0} (p : X → Bool) {xs ys : List X} → SameBag xs ys → list_any p xs ≡ list_any p ys
list_any-same p SameBag.none = refl
list_any-same p (SameBag.head {x} s) = ap (λ b. p x || b) (list_any-same p s)
list_any-same p (SameBag.swap {x} {y} {xs}) = or_swap (p x) (p y) (list_any p xs)
list_any-same p (SameBag.join s t) = list_any-same p s ∙ list_any-same p t
