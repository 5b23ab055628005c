use Rattle.std.proofs.Common.{◌≤◌, map, take}
use Rattle.flow_outside.specs.Blocks.{BothTold}
use Rattle.flow_types.specs.Records.{form, tuple_of}
use Rattle.flow_model.specs.Rows.{branch_rows}
use Rattle.lot_store.specs.LotCalls.{Writes}
use Rattle.row_pipe.specs.Pipes.{AddsRows, CanAdd}
use Rattle.row_pipe.proofs.give.add_branches.Given as goal

abbrev pub invariant-loop-branch : goal.invariant-loop-branch
invariant-loop-branch g l = record {
  later : g.D.Spill.fault_count l.fn.disk ≤ g.D.Spill.fault_count l.disk;
  can : CanAdd (g.D.Spill.told l.disk) l.out l.purse;
  writes : Writes (g.D.Spill.told l.fn.disk) (g.D.Spill.told l.disk) l.fn.purse l.purse l.fn.out l.out;
  adds : BothTold (g.D.Spill.told l.fn.disk) (g.D.Spill.told l.disk) (AddsRows l.fn.out l.out (map form (branch_rows (take l.branch-index l.branches) (tuple_of l.schema (g.X.Span.seen l.row)))));
}
