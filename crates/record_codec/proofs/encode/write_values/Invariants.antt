use Rattle.std.proofs.Common.{◌≡◌, ℕ, ◌++◌, List, take, drop, IsTrue}
use Rattle.std.specs.List.{list_all}
use Rattle.flow_types.specs.Tuples.{Tuple}
use Rattle.flow_types.specs.Values.{is_value}
use Rattle.flow_types.specs.Records.{form, size}
use Rattle.record_codec.proofs.encode.write_values.Given as goal

-- the first i values were written
pub record Written (values : Tuple) (old now : List ℕ) (i start : ℕ) : Type 0 where
  pub place : start ≡ size (take i values)
  pub bytes : now ≡ form (take i values) ++ drop start old
  pub held : IsTrue (list_all is_value (take i values))

abbrev pub invariant-loop-value : goal.invariant-loop-value
invariant-loop-value l = Written l.values l.fn.out l.out l.value-index l.start
