use Rattle.std.specs.Prelude.{ℕ, List, length, fold, ℤ, pos, ◌+ℤ◌, Option, Some, None}
use Rattle.std.specs.Int.{int_min, int_max}
use Rattle.flow_types.specs.declared.agg.Agg.{Agg}
use Rattle.flow_types.specs.declared.agg.Agg.TheVariants as agg
use Rattle.flow_types.specs.Values.{long_of}
use Rattle.flow_types.specs.Tuples.{Tuple, field}
use Rattle.flow_types.specs.Expressions.{wrap}

-- Folds over the rows of a group, as Flink's DataSet API aggregates one.

-- the number of a field that is a Long
abbrev pub long_at : ℕ → Tuple → ℤ
long_at i t = long_of (field i t)

-- the sum of a field
abbrev pub sum_of : ℕ → List Tuple → ℤ
sum_of i rows = fold (λ sum t. sum +ℤ long_at i t) (pos 0) rows

-- the lesser of a number and one that was found before, where there is one
abbrev pub lesser : Option ℤ → ℤ → ℤ
lesser None n = n
lesser (Some m) n = int_min m n

-- the greater of a number and one that was found before, where there is one
abbrev pub greater : Option ℤ → ℤ → ℤ
greater None n = n
greater (Some m) n = int_max m n

-- the least of a field; none of no rows
abbrev pub least_of : ℕ → List Tuple → Option ℤ
least_of i rows = fold (λ best t. Some (lesser best (long_at i t))) None rows

-- the greatest of a field; none of no rows
abbrev pub greatest_of : ℕ → List Tuple → Option ℤ
greatest_of i rows = fold (λ best t. Some (greater best (long_at i t))) None rows

-- a number where there is one, and else a stated one
abbrev pub number_or : ℤ → Option ℤ → ℤ
number_or empty None = empty
number_or empty (Some n) = n

-- The value of a fold: the sum modulo 2^64, as Java adds; the number of rows, modulo 2^64; the least or
-- the greatest of a field, or the stated number where there is no row.
abbrev pub fold_of : Agg → List Tuple → ℤ
fold_of (agg.Sum i) rows = wrap (sum_of i rows)
fold_of (agg.Min i empty) rows = number_or empty (least_of i rows)
fold_of (agg.Max i empty) rows = number_or empty (greatest_of i rows)
fold_of agg.Count rows = wrap (pos (length rows))
