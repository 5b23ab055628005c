use Rattle.expr_core.proofs.ColumnLemmas.{columns_of_a_schema}
use Rattle.expr_core.proofs.laws.columns_of_a_schema.Goals as goal

pub returns : goal.returns
returns c = columns_of_a_schema
