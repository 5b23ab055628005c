use Rattle.std.specs.Prelude.{◌≡◌, ℕ, List, [], ◌∷◌, if◌then◌else◌, count_by, IsSorted}
use Rattle.std.specs.Ordering.{is_gt}
use Rattle.std.specs.declared.cmp.Ordering.{Ordering}
use Rattle.flow_types.specs.Tuples.{Tuple, tuple_cmp, tuple_eq}

-- Lists stand for bags.

-- how often a tuple occurs in a list
abbrev pub copies : Tuple → List Tuple → ℕ
copies t rows = count_by (tuple_eq t) rows

-- two lists are the same bag: every tuple occurs in one as often as in the other
abbrev pub IsSameBag : List Tuple → List Tuple → Type 0
IsSameBag left right = (t : Tuple) → copies t left ≡ copies t right

-- an element put before the first that is no less
abbrev pub put_in_order : {X : Type 0} → (X → X → Ordering) → X → List X → List X
put_in_order cmp x [] = x ∷ []
put_in_order cmp x (y ∷ ys) = if is_gt (cmp x y) then y ∷ put_in_order cmp x ys else x ∷ y ∷ ys

-- a list in ascending order
abbrev pub sort_by : {X : Type 0} → (X → X → Ordering) → List X → List X
sort_by cmp [] = []
sort_by cmp (x ∷ xs) = put_in_order cmp x (sort_by cmp xs)

-- the one ascending list that is the same bag
abbrev pub ordered : List Tuple → List Tuple
ordered rows = sort_by tuple_cmp rows

-- What `ordered` gives is the same bag and ascends, and no other list is and does.
pub record OrderedIsTheOne : Type 0 where
  pub same : (rows : List Tuple) → IsSameBag rows (ordered rows)
  pub ascends : (rows : List Tuple) → IsSorted tuple_cmp (ordered rows)
  pub only : (rows other : List Tuple) → IsSameBag rows other → IsSorted tuple_cmp other → other ≡ ordered rows
