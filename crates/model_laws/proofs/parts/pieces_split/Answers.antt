use Rattle.std.proofs.Common.{◌==◌}
use Rattle.flow_types.specs.Values.{flag_of}
use Rattle.flow_types.specs.Expressions.{val}
use Rattle.flow_types.proofs.BagSplits.{same-flat_map_comm}
use Rattle.flow_model.specs.Rows.{columns_of, branch_rows}
use Rattle.flow_model.specs.Algebra.{rows_at}
use Rattle.model_laws.proofs.PieceLaws.{map-pieces, filter-pieces, flat_map-pieces}
use Rattle.model_laws.proofs.parts.pieces_split.Goals as goal

pub returns : goal.returns
returns c = record {
  mapped = λ columns pieces. map-pieces (columns_of columns) pieces;
  filtered = λ test pieces. filter-pieces (λ t. flag_of (val t test)) pieces;
  flat_mapped = λ branches pieces. flat_map-pieces (branch_rows branches) pieces;
  united = λ names envs. same-flat_map_comm (λ env name. rows_at env name) envs names;
  parted = λ part_of i pieces. filter-pieces (λ t. part_of t == i) pieces;
}
