-- One branch more.
use Rattle.std.proofs.Common.{arith}
use Rattle.flow_types.specs.Records.{tuple_of}
use Rattle.row_pipe.proofs.Adding.{added_of, place_of, writes_join}
use Rattle.row_pipe.proofs.give.add_branches.Goals as goal

pub add_branch-requires-clause-place : goal.add_branch-requires-clause-place
add_branch-requires-clause-place g c =
    place_of _ _ c.args.out.now c.loop-branch.out c.args.purse.now c.loop-branch.purse c.args.branches.now c.loop-branch.branch-index c.branch-item.result (tuple_of c.args.schema.now (g.X.Span.seen c.args.row.now)) c.loop-branch-test.true c.branch-item.is c.requires.place c.loop-branch.invariant.writes

pub returns-in-Err-clause-writes : goal.returns-in-Err-clause-writes
returns-in-Err-clause-writes g c =
    writes_join _ _ _ c.args.out.now c.loop-branch.out c.add_branch.new.out c.args.purse.now c.loop-branch.purse c.add_branch.new.purse c.loop-branch.invariant.writes c.add_branch.ensures.writes

pub loop-branch-preserved : goal.loop-branch-preserved
loop-branch-preserved g c = record {
  later = omega (arith, c.loop-branch.invariant.later, c.add_branch.ensures.cause.later);
  can = c.in-Ok.ensures.can;
  writes = writes_join _ _ _ c.args.out.now c.loop-branch.out c.add_branch.new.out c.args.purse.now c.loop-branch.purse c.add_branch.new.purse c.loop-branch.invariant.writes c.add_branch.ensures.writes;
  adds = added_of _ _ _ c.args.out.now c.loop-branch.out c.add_branch.new.out c.args.branches.now c.loop-branch.branch-index c.branch-item.result (tuple_of c.args.schema.now (g.X.Span.seen c.args.row.now)) c.loop-branch-test.true c.branch-item.is c.loop-branch.invariant.adds c.in-Ok.ensures.adds;
}
