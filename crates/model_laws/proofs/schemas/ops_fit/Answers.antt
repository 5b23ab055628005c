use Rattle.std.proofs.Common.{subst}
use Rattle.std.proofs.lemmas.Option.{option_and_then_some}
use Rattle.flow_types.specs.Records.{IsTupleOf}
use Rattle.flow_model.specs.Rows.{top_rows}
use Rattle.flow_model.specs.Schemas.{branch_types, all_widened}
use Rattle.model_laws.specs.LawsOfFits.{AreTuplesOf}
use Rattle.model_laws.proofs.AllLemmas.{All-once}
use Rattle.model_laws.proofs.SchemaLaws.{all_widened-fit}
use Rattle.model_laws.proofs.RowsFit.{map_rows-fit, filter_rows-fit, flat_map_rows-fit, union-fit, group_rows-fit, ranked-same, top_rows-fit, chosen-fit}
use Rattle.model_laws.proofs.schemas.ops_fit.Goals as goal

pub returns : goal.returns
returns c = record {
  mapped = map_rows-fit;
  filtered = filter_rows-fit;
  flat_mapped = λ fields types branches rows e values h. option_and_then_some all_widened (branch_types fields branches) types e (λ lists p q. flat_map_rows-fit fields types branches lists rows p q values h);
  united = λ schemas types lists e h. union-fit types schemas lists (all_widened-fit schemas types e) h;
  distinct = λ fields rows h. All-once (IsTupleOf fields) rows h;
  grouped = group_rows-fit;
  topped = λ fields types key order count rows e h. subst (λ fs. AreTuplesOf fs (top_rows key order count rows)) (ranked-same fields types key order e) (top_rows-fit fields key order count rows h);
  choice = chosen-fit;
}
