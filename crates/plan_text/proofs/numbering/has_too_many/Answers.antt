use Rattle.std.proofs.Common.{sym, ap, ◌∙◌, map, is_none}
use Rattle.std.specs.Prelude.{nat_lt}
use Rattle.serde_json.specs.View.{view}
use Rattle.plan_text.specs.Nodes.{count_up_to}
use Rattle.plan_text.specs.Plans.{node_limit}
use Rattle.plan_text.proofs.NodeLemmas.{length-placed, none_where_past, not_some}
use Rattle.plan_text.proofs.numbering.has_too_many.Goals as goal

pub returns : goal.returns
returns c =
    let ds = map view c.args.items.now in
    not_some c.is_none.result c.left_after.result (sym c.is_none.ensures) ∙ ap is_none c.left_after.ensures ∙ none_where_past 64 (count_up_to 65 ds) ∙ ap (nat_lt node_limit) (sym (length-placed 65 0 1 ds))
