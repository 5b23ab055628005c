-- The result was made, and the worker ended.
use Rattle.std.proofs.Common.{ap, length, sym, subst, ◌∙◌}
use Rattle.superstep.specs.EngineCalls.{Executes}
use Rattle.superstep.specs.Engines.{EngineView, first_disk, told_of}
use Rattle.superstep.specs.EngineSteps.{faults_of}
use Rattle.superstep.proofs.EngineLemmas.{exec_failed, executes, faults_later, is_done}
use Rattle.superstep.proofs.engine.Engine.execute.Goals as goal

pub returns-in-Ok-clause-stands : goal.returns-in-Ok-clause-stands
returns-in-Ok-clause-stands g c = (
  is_done g.D.Spill.told c.args.self.now c.make.new.self c.take_down.new.self c.requires c.make.ensures.down c.take_down.ensures.down c.take_down.ensures.takes c.make.ensures.keeps.plan c.take_down.ensures.keeps.plan c.in-Ok.count c.in-Ok.ensures.makes c.take_down.ensures.phase,
  tt,
)

pub returns-in-Ok-clause-executes : goal.returns-in-Ok-clause-executes
returns-in-Ok-clause-executes g c =
    subst (Executes g.D.Spill.told c.args.self.now c.take_down.new.self) (sym c.of-in-Ok.ensures)
    (executes g.D.Spill.told c.args.self.now c.make.new.self c.take_down.new.self c.requires c.make.ensures.down c.take_down.ensures.down c.take_down.ensures.takes c.make.ensures.keeps.plan c.take_down.ensures.keeps.plan c.in-Ok.count c.of.result c.in-Ok.ensures.makes
    (c.take_down.ensures.keeps.total ∙ c.make.ensures.keeps.total) (c.of.ensures.total ∙ ap (λ (e : EngineView _). e.pool.total) c.self.view_is) (c.of.ensures.free ∙ ap (λ (e : EngineView _). length e.pool.free) c.self.view_is))

pub returns-in-Err-clause-cause : goal.returns-in-Err-clause-cause
returns-in-Err-clause-cause g c =
    exec_failed (faults_of g.D.Spill.fault_count (first_disk c.args.self.now)) (faults_of g.D.Spill.fault_count (first_disk c.make.new.self)) (faults_of g.D.Spill.fault_count (first_disk c.take_down-in-Err.new.self)) (told_of g.D.Spill.told (first_disk c.args.self.now)) c.make.result c.in-Err.fault c.in-Err.is
    (faults_later g.D.Spill.told g.D.Spill.fault_count (first_disk c.make.new.self) (first_disk c.take_down-in-Err.new.self) c.take_down-in-Err.ensures.keeps.first) c.make.ensures.cause
