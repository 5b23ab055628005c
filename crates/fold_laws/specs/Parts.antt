use Rattle.std.specs.Prelude.{ℕ, if◌then◌else◌, List, fold, ℤ, pos, Option, Some, None}
use Rattle.flow_types.specs.declared.agg.Agg.{Agg}
use Rattle.flow_types.specs.declared.agg.Agg.TheVariants as agg
use Rattle.flow_types.specs.Tuples.{Tuple}
use Rattle.flow_types.specs.Folds.{long_at}
use Rattle.flow_types.specs.LawsOfFolds.{merged}
use Rattle.fold_laws.specs.declared.part.Part.{Part}

-- Parts of a group's rows. A part stands for a number that may be there: the fold's value over the rows, where there is
-- a row.

-- what a part stands for; its number has no meaning where there is no row
abbrev pub kept_in : Part → Option ℤ
kept_in p = if p.any then Some p.n else None

-- the value of a fold over one row, by the Long in the fold's field: the Long, and 1 of a count
abbrev pub one_row : Agg → ℤ → ℤ
one_row (agg.Sum i) v = v
one_row (agg.Min i empty) v = v
one_row (agg.Max i empty) v = v
one_row agg.Count v = pos 1

-- one row more: what was kept, merged with what is kept of that row alone
abbrev pub added : Agg → Option ℤ → ℤ → Option ℤ
added a p v = merged a p (Some (one_row a v))

-- some rows more, one after the other
abbrev pub added_all : Agg → Option ℤ → List ℤ → Option ℤ
added_all a p values = fold (added a) p values

-- several parts, merged one after the other
abbrev pub merged_all : Agg → List (Option ℤ) → Option ℤ
merged_all a parts = fold (merged a) None parts

-- the number of a fold's field; none of a count
abbrev pub field_of : Agg → Option ℕ
field_of (agg.Sum i) = Some i
field_of (agg.Min i empty) = Some i
field_of (agg.Max i empty) = Some i
field_of agg.Count = None

-- the value of a row that is added: the Long in the fold's field, and 0 for a count, which takes any
abbrev pub row_value : Agg → Tuple → ℤ
row_value (agg.Sum i) t = long_at i t
row_value (agg.Min i empty) t = long_at i t
row_value (agg.Max i empty) t = long_at i t
row_value agg.Count t = pos 0

-- the same fold of another field; a count has none
abbrev pub of_field : ℕ → Agg → Agg
of_field k (agg.Sum i) = agg.Sum k
of_field k (agg.Min i empty) = agg.Min k empty
of_field k (agg.Max i empty) = agg.Max k empty
of_field k agg.Count = agg.Count
