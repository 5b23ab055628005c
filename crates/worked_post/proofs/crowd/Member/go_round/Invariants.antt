use Rattle.worked_post.specs.Crowd.{IsAt, IsLater}
use Rattle.worked_post.proofs.crowd.Member.go_round.Given as goal

abbrev pub invariant-loop-peer : goal.invariant-loop-peer
invariant-loop-peer l = record {
  at : IsAt l.post l.self;
  later : IsLater l.post.size l.initial.self l.self;
}
