-- The worker made the result.
use Rattle.std.proofs.Common.{◌≡◌, Some, sym, subst, ◌∙◌}
use Rattle.std.specs.Prelude.{IfOk}
use Rattle.superstep.specs.Engines.{IsReady}
use Rattle.superstep.specs.EngineSteps.{Makes}
use Rattle.superstep.specs.Executing.{KeepsSegments, MakesResult}
use Rattle.superstep.proofs.EngineLemmas.{makes, may_end}
use Rattle.superstep.proofs.engine.Engine.make.Goals as goal

pub returns-clause-down : goal.returns-clause-down
returns-clause-down g c =
    let ready = subst (λ e. IsReady g.D.Spill.told e) (sym c.self.view_is) c.requires in
    let both : Some ready.worker ≡ Some c.in-Some.worker = sym ready.staffed.there ∙ c.in-Some.is in
    let one : ready.worker ≡ c.in-Some.worker = cc in
    let keeps : KeepsSegments g.D.Spill.told g.D.Spill.fault_count ready.worker.storage c.make_result.new.worker.storage = subst (λ w. KeepsSegments g.D.Spill.told g.D.Spill.fault_count w.storage c.make_result.new.worker.storage) (sym one) c.make_result.ensures.keeps in
    may_end g.D.Spill.told g.D.Spill.fault_count _ ready c.make_result.new.worker c.make_result.new.place keeps c.make_result.ensures.worker c.make_result.ensures.beside

pub returns-clause-makes : goal.returns-clause-makes
returns-clause-makes g c =
    let ready = subst (λ e. IsReady g.D.Spill.told e) (sym c.self.view_is) c.requires in
    let both : Some ready.worker ≡ Some c.in-Some.worker = sym ready.staffed.there ∙ c.in-Some.is in
    let one : ready.worker ≡ c.in-Some.worker = cc in
    let keeps : KeepsSegments g.D.Spill.told g.D.Spill.fault_count ready.worker.storage c.make_result.new.worker.storage = subst (λ w. KeepsSegments g.D.Spill.told g.D.Spill.fault_count w.storage c.make_result.new.worker.storage) (sym one) c.make_result.ensures.keeps in
    subst (λ e. IfOk c.make_result.result (λ count. Makes g.D.Spill.told count e (record { plan = c.self.inside.plan; allot = c.self.inside.allot; phase = c.self.inside.phase; pool = c.self.inside.pool; worker = Some c.make_result.new.worker; place = c.make_result.new.place; disk = c.self.inside.disk; others = c.self.inside.others.items }))) c.self.view_is
    (makes g.D.Spill.told g.D.Spill.fault_count _ ready c.make_result.new.worker c.make_result.new.place keeps c.make_result.result
    (subst (λ w. IfOk c.make_result.result (λ count. MakesResult g.D.Spill.told c.self.inside.plan count w c.make_result.new.worker.storage.disk c.make_result.new.place)) (sym one) c.make_result.ensures.made))
