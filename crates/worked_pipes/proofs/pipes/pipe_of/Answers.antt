use Rattle.std.proofs.Common.{arith}
use Rattle.row_pipe.proofs.LawLemmas.{node_opens}
use Rattle.worked_pipes.proofs.PipeLemmas.{node_keeps}
use Rattle.worked_pipes.proofs.pipes.pipe_of.Goals as goal

pub opened-requires : goal.opened-requires
opened-requires c some =
    node_opens c.args.plan.now.nodes c.index-nodes-place.result
    (node_keeps c.args.plan.now c.as_slice-nodes.result.now c.args.place c.index-nodes-place.result c.as_slice-nodes.ensures c.index-nodes-place.is (omega (arith, c.if-place-nodes.false)) c.requires.nodes) some
