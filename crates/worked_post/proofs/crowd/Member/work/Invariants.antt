use Rattle.worked_post.specs.Crowd.{IsAt, IsLater}
use Rattle.worked_post.proofs.crowd.Member.work.Given as goal

abbrev pub invariant-loop : goal.invariant-loop
invariant-loop l = record {
  at : IsAt l.post l.self;
  later : IsLater l.post.size l.initial.self l.self;
}
