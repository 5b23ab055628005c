use Rattle.std.specs.Prelude.{List}
use Rattle.flow_types.specs.Tuples.{Tuple}

-- the rows of a dataset
abbrev pub Tuples : Type 0
Tuples = List Tuple
