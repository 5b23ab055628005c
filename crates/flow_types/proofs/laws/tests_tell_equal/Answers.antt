use Rattle.flow_types.proofs.EqLemmas.{Decides-value_eq, Decides-tuple_eq}
use Rattle.flow_types.proofs.laws.tests_tell_equal.Goals as goal

pub returns : goal.returns
returns c = record {
  values = Decides-value_eq;
  tuples = Decides-tuple_eq;
}
