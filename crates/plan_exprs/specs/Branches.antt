use Rattle.std.specs.Prelude.{Bool, ◌&&◌, codes, List, Option, Some, is_some}
use Rattle.std.specs.List.{list_all}
use Rattle.serde_json.specs.Data.{Data}
use Rattle.serde_json.specs.Find.{get}
use Rattle.flow_model.specs.declared.op.Branch.{Branch}
use Rattle.plan_json.specs.declared.reading.Flaw.TheVariants as flaw
use Rattle.plan_json.specs.declared.rows.Form.TheVariants as form
use Rattle.plan_json.specs.Json.{◌>>=◌, only_if, collected, list_in}
use Rattle.plan_json.specs.Reading.{Reading, or_flaw, formed}
use Rattle.plan_json.specs.Rows.{has_only}
use Rattle.plan_exprs.specs.Exprs.{limited_expr}

-- The branches of a flat map.

-- an object with exactly `when` and `columns`, which are 1 to 32; expressions aside
abbrev pub is_branch : Data → Bool
is_branch d = has_only form.Branch d && is_some (get (codes "when") d) && is_some (get (codes "columns") d >>= list_in 1 32)

-- the branch that an object of the form is, where its expressions are ones within their limits
abbrev pub branch_of : Data → Option Branch
branch_of d =
    (get (codes "when") d >>= limited_expr) >>= λ when.
    (get (codes "columns") d >>= list_in 1 32 >>= collected limited_expr) >>= λ columns.
    Some (record { when = when; columns = columns })

-- a member that is a list of 1 to 8 branches
abbrev pub branches_in : Option Data → Reading (List Branch)
branches_in member =
    formed (member >>= list_in 1 8 >>= λ items. only_if (list_all is_branch items) items) (λ items. or_flaw flaw.Expr (collected branch_of items))
