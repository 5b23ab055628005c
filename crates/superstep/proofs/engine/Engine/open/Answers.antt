-- All of it was opened.
use Rattle.std.proofs.Common.{ap, refl, ◌∙◌, ◌∷◌, reverse}
use Rattle.superstep.proofs.EngineLemmas.{disks_are}
use Rattle.superstep.proofs.engine.Engine.open.Goals as goal

pub returns-in-Ok-clause-ready : goal.returns-in-Ok-clause-ready
returns-in-Ok-clause-ready g c = record {
  engine = record { serving = c.requires.serving; size = c.in-Ok.ensures.crew.size };
  phase = refl;
  worker = c.in-Ok.field-0.worker;
  staffed = record { there = refl; sound = c.in-Ok.ensures.crew.sound; accounted = c.in-Ok.ensures.crew.accounted; place = c.in-Ok.ensures.place };
}

pub returns-in-Ok-clause-new : goal.returns-in-Ok-clause-new
returns-in-Ok-clause-new g c = record {
  plan = refl;
  allot = refl;
  total = c.in-Ok.ensures.crew.total;
  disks = ap (λ d. d ∷ reverse c.pop.new.self.items) c.in-Ok.ensures.crew.disk ∙ disks_are c.args.disks.items c.reverse.new.self.items c.pop.new.self.items c.in-Some.disk c.reverse.ensures.items c.in-Some.ensures.items;
  rows = c.in-Ok.ensures.crew.rows;
}
