use Rattle.std.proofs.Common.{arith}
use Rattle.spool.specs.Reading.{number_at}
use Rattle.spool.proofs.ReadLemmas.{holds_first, pages_behind, readable_on, cause_on}
use Rattle.spool.proofs.place.RunReader.next.Goals as goal

pub fetch-requires : goal.fetch-requires
fetch-requires g c =
    holds_first _ _ (number_at c.args.self.now) c.args.self.now.at c.args.self.now.left (omega (arith, c.if-self-eq0.false)) c.requires

pub returns-in-Ok-clause-cause : goal.returns-in-Ok-clause-cause
returns-in-Ok-clause-cause g c =
    cause_on _ _ _ _ c.args.self.now c.step.new.self c.fetch.new.page.bytes _ c.fetch.ensures.cause.later (omega (arith, c.if-self-eq0.false)) c.requires c.in-Ok.ensures.read c.step.ensures.damaged c.step.ensures.read

pub returns-in-Ok-clause-pages : goal.returns-in-Ok-clause-pages
returns-in-Ok-clause-pages g c =
    λ is. let h = c.step.ensures.moved is in
    pages_behind _ c.args.self.now.at c.args.self.now.left c.step.new.self.left c.step.new.self.at c.fetch.new.page.bytes h.fewer h.next c.in-Ok.ensures.read

pub returns-in-Ok-clause-readable : goal.returns-in-Ok-clause-readable
returns-in-Ok-clause-readable g c =
    readable_on _ _ c.args.self.now c.step.new.self c.fetch.new.page.bytes c.step.result (omega (arith, c.if-self-eq0.false)) c.requires c.in-Ok.ensures.read c.step.ensures.moved c.step.ensures.damaged c.step.ensures.more c.step.ensures.read
