use Rattle.std.proofs.Common.{◌≤◌}
use Rattle.flow_outside.specs.Blocks.{BothTold}
use Rattle.lot_store.specs.Lots.{IsRewound}
use Rattle.page_feed.specs.Feeds.{most_left}
use Rattle.row_pipe.specs.Pipes.{CanAdd, GoesThrough, Passes}
use Rattle.row_pipe.proofs.pipe.pass_all.Given as goal

abbrev pub invariant-rows : goal.invariant-rows
invariant-rows g l = record {
  ready : IsRewound l.input;
  later : g.D.Spill.fault_count l.fn.disk ≤ g.D.Spill.fault_count l.disk;
  can : CanAdd (g.D.Spill.told l.disk) l.out l.purse;
  passes : Passes (g.D.Spill.told l.fn.disk) (g.D.Spill.told l.disk) l.fn.input l.input l.fn.out l.out l.fn.purse l.purse;
  goes : BothTold (g.D.Spill.told l.fn.disk) (g.D.Spill.told l.disk) (GoesThrough l.p.takes l.p.work l.fn.input l.input l.fn.out l.out l.fn.purse.pages);
}

abbrev pub decreases-rows : goal.decreases-rows
decreases-rows g l = most_left l.input.feed
