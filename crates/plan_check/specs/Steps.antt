use Rattle.std.specs.Prelude.{not, if◌then◌else◌, List, Option, Some, None, Result, Ok, Err}
use Rattle.flow_model.specs.declared.plan.Node.{Node}
use Rattle.flow_model.specs.declared.plan_code.PlanCode.{PlanCode}
use Rattle.flow_model.specs.declared.plan_code.PlanCode.TheVariants as code
use Rattle.flow_model.specs.Rules.{is_placed, references}
use Rattle.plan_check.specs.declared.node.NodeTypes.{NodeTypes}
use Rattle.plan_check.specs.Places.{Place}
use Rattle.plan_check.specs.Checking.{is_duplicate, has_unknown, with_schemas}

-- The parts in which a node is checked.

-- the first code that refuses a node before it has types
abbrev pub refusal : List Place → List Node → Node → Option PlanCode
refusal ps done node =
    if is_duplicate ps node then Some code.Duplicate
    else (if not (is_placed done node) then Some code.Misplaced
    else (if has_unknown (references node.op) then Some code.UnknownName
    else None))

-- a node with these types, where it has some
abbrev pub with_types : Node → Result NodeTypes PlanCode → Result Node PlanCode
with_types node (Err c) = Err c
with_types node (Ok types) = Ok (with_schemas node types.inputs types.schema)
