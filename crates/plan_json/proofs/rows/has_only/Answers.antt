use Rattle.std.proofs.Common.{◌∙◌}
use Rattle.serde_json.specs.View.{view}
use Rattle.plan_json.specs.Rows.{is_member}
use Rattle.plan_json.proofs.DataLemmas.{all_names-view}
use Rattle.plan_json.proofs.rows.has_only.Goals as goal

pub returns-in-Some : goal.returns-in-Some
returns-in-Some c =
    c.all_known.ensures ∙ all_names-view (is_member c.args.form) (view c.args.value.now) c.in-Some.members.now.entries c.in-Some.ensures
