use Rattle.std.specs.Prelude.{◌≡◌, ℕ, Bool, true, List, [], ◌∷◌, ◌++◌, IsTrue, ℤ, pos, ◌+ℤ◌, Option, Some, None}
use Rattle.std.specs.Int.{int_min, int_max}
use Rattle.std.specs.List.{list_all}
use Rattle.flow_types.specs.declared.agg.Agg.{Agg}
use Rattle.flow_types.specs.declared.agg.Agg.TheVariants as agg
use Rattle.flow_types.specs.Values.{is_long, is_value}
use Rattle.flow_types.specs.Tuples.{Tuple}
use Rattle.flow_types.specs.Expressions.{wrap}
use Rattle.flow_types.specs.Folds.{sum_of, least_of, greatest_of, fold_of}
use Rattle.flow_types.specs.SameBags.{SameBag}

-- Laws of folds: rows may come in any order and in parts, and what folds of the parts give merges to the
-- fold of all rows.

-- two numbers that may be there, as one: what is there alone stays
abbrev pub of_both : (ℤ → ℤ → ℤ) → Option ℤ → Option ℤ → Option ℤ
of_both op None q = q
of_both op (Some m) None = Some m
of_both op (Some m) (Some n) = Some (op m n)

-- what is kept of some rows for a fold: the fold's value, where there is a row
abbrev pub kept_of : Agg → List Tuple → Option ℤ
kept_of a [] = None
kept_of a (t ∷ rows) = Some (fold_of a (t ∷ rows))

-- the values of a fold over two groups of rows that aren't empty, as one
abbrev pub merge_two : Agg → ℤ → ℤ → ℤ
merge_two (agg.Sum i) m n = wrap (m +ℤ n)
merge_two (agg.Min i empty) m n = int_min m n
merge_two (agg.Max i empty) m n = int_max m n
merge_two agg.Count m n = wrap (m +ℤ n)

-- what is kept of two parts of the rows, as one
abbrev pub merged : Agg → Option ℤ → Option ℤ → Option ℤ
merged a = of_both (merge_two a)

-- the value of a fold over no rows
abbrev pub empty_value : Agg → ℤ
empty_value (agg.Sum i) = pos 0
empty_value (agg.Min i empty) = empty
empty_value (agg.Max i empty) = empty
empty_value agg.Count = pos 0

-- a fold's value, from what was kept of all its rows
abbrev pub finished : Agg → Option ℤ → ℤ
finished a None = empty_value a
finished a (Some n) = n

-- the number that a fold states for no rows is a Long's
abbrev pub states_long : Agg → Bool
states_long (agg.Sum i) = true
states_long (agg.Min i empty) = is_long empty
states_long (agg.Max i empty) = is_long empty
states_long agg.Count = true

-- The value of a fold is the same of the same bags, and so is what is kept of them.
pub record FoldsOfSameBags : Type 0 where
  pub value : (a : Agg) (xs ys : List Tuple) → SameBag xs ys → fold_of a xs ≡ fold_of a ys
  pub kept : (a : Agg) (xs ys : List Tuple) → SameBag xs ys → kept_of a xs ≡ kept_of a ys

-- A fold over one list after the other: sums add, and the least and the greatest are those of both.
pub record FoldsSplit : Type 0 where
  pub sums : (i : ℕ) (xs ys : List Tuple) → sum_of i (xs ++ ys) ≡ sum_of i xs +ℤ sum_of i ys
  pub least : (i : ℕ) (xs ys : List Tuple) → least_of i (xs ++ ys) ≡ of_both int_min (least_of i xs) (least_of i ys)
  pub greatest : (i : ℕ) (xs ys : List Tuple) → greatest_of i (xs ++ ys) ≡ of_both int_max (greatest_of i xs) (greatest_of i ys)

-- Parts merge: in any order and any grouping, and what is kept of two lists makes what is kept of one after
-- the other. The fold's value is what was kept, finished.
pub record PartsMerge : Type 0 where
  pub whole : (a : Agg) (rows : List Tuple) → fold_of a rows ≡ finished a (kept_of a rows)
  pub parts : (a : Agg) (xs ys : List Tuple) → kept_of a (xs ++ ys) ≡ merged a (kept_of a xs) (kept_of a ys)
  pub either_way : (a : Agg) (p q : Option ℤ) → merged a p q ≡ merged a q p
  pub grouped : (a : Agg) (p q r : Option ℤ) → merged a (merged a p q) r ≡ merged a p (merged a q r)
  pub neutral : (a : Agg) (p : Option ℤ) → merged a p None ≡ p

-- A fold's value is a Long's number, where the rows hold values and the stated number is a Long's.
abbrev pub FoldsGiveLongs : Type 0
FoldsGiveLongs =
    (a : Agg) (rows : List Tuple) → IsTrue (states_long a) → IsTrue (list_all (list_all is_value) rows) → IsTrue (is_long (fold_of a rows))
