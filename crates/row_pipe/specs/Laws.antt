-- What callers need to meet the conditions of `RowPipe::open` and of `pipe`.
use Rattle.std.specs.Prelude.{ℕ, ◌<◌, ◌≤◌, List, [], IsSome, IsTrue, length}
use Rattle.flow_types.specs.Types.{Fields}
use Rattle.flow_model.specs.declared.plan.Node.{Node}
use Rattle.flow_model.specs.Rules.{in_range, is_fields, node_holds}
use Rattle.flow_model.specs.Schemas.{op_type}
use Rattle.row_pipe.specs.Pipes.{GivesWithin, most_touched}
use Rattle.row_pipe.specs.Works.{GivesNarrow, work_of}
use Rattle.row_pipe.specs.declared.work.Work.{Work}

-- The law of widths: a record that has fewer bytes touches no more pages.
abbrev pub NarrowRowsStayWithin : Type 0
NarrowRowsStayWithin =
    (fields : Fields) (w : Work) (most size reach : ℕ) → 16 < size → GivesNarrow fields w most → most_touched size most ≤ reach → GivesWithin fields w size reach

-- What `RowPipe::open` asks of a node that goes row by row.
pub record MayBeOpened (node : Node) : Type 0 where
  pub input : 0 < length node.inputs
  pub ranged : IsTrue (in_range node.op)
  pub typed : IsTrue (is_fields (op_type node.inputs [] node.op) node.schema)

-- The law of nodes: those of a plan that keeps the rules are such.
abbrev pub NodesMayBeOpened : Type 0
NodesMayBeOpened = (nodes : List Node) (node : Node) → IsTrue (node_holds nodes node) → IsSome (work_of node.op) → MayBeOpened node
