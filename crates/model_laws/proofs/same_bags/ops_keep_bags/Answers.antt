use Rattle.flow_types.proofs.BagLaws.{same-flat_map_each}
use Rattle.flow_model.specs.Algebra.{rows_at}
use Rattle.model_laws.proofs.OpBags.{map_rows-same, filter_rows-same, flat_map_rows-same, join_rows-same, probe_rows-same, merged-same}
use Rattle.model_laws.proofs.same_bags.ops_keep_bags.Goals as goal

pub returns : goal.returns
returns c = record {
  mapped = λ columns xs ys s. map_rows-same columns s;
  filtered = λ test xs ys s. filter_rows-same test s;
  flat_mapped = λ branches xs ys s. flat_map_rows-same branches s;
  united = λ names env other s. same-flat_map_each (rows_at env) (rows_at other) s names;
  joined = λ kind lk rk columns ld rd ls ms rs ss s t. join_rows-same kind lk rk columns ld rd s t;
  probed = λ held other key columns xs ys e s t. probe_rows-same held other key columns e s t;
  put_together = λ key order merge old others xs ys s t. merged-same key order merge s t;
}
