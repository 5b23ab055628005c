-- The worker stored the rows.
use Rattle.std.proofs.Common.{◌≡◌, Some, sym, subst, ◌∙◌, [], ◌∷◌}
use Rattle.std.specs.Prelude.{IfOk}
use Rattle.flow_outside.specs.Readers.{left_of}
use Rattle.flow_outside.specs.Told.{IfTold}
use Rattle.worker_core.specs.Workers.{KeepsWorker}
use Rattle.superstep.specs.EngineCalls.{Loads}
use Rattle.superstep.specs.Engines.{IsReady}
use Rattle.superstep.specs.Loading.{IsSource}
use Rattle.superstep.proofs.EngineLemmas.{fills, may_go, ready_still}
use Rattle.superstep.proofs.engine.Engine.fill.Goals as goal

pub returns-clause-stands : goal.returns-clause-stands
returns-clause-stands g c =
    let ready = subst (λ e. IsReady g.D.Spill.told e) (sym c.self.view_is) c.requires.ready in
    let both : Some ready.worker ≡ Some c.in-Some.worker = sym ready.staffed.there ∙ c.in-Some.is in
    let one : ready.worker ≡ c.in-Some.worker = cc in
    let keeps : KeepsWorker g.D.Spill.told ready.worker c.load_source-answer.new.worker (c.args.source ∷ []) (c.args.source ∷ []) = subst (λ w. KeepsWorker g.D.Spill.told w c.load_source-answer.new.worker (c.args.source ∷ []) (c.args.source ∷ [])) (sym one) c.load_source-answer.ensures.keeps in (
      ready_still g.D.Spill.told _ ready c.load_source-answer.new.worker (c.args.source ∷ []) (c.args.source ∷ []) keeps c.load_source-answer.result c.load_source-answer.ensures.sound,
      may_go g.D.Spill.told _ ready c.load_source-answer.new.worker (c.args.source ∷ []) (c.args.source ∷ []) keeps c.load_source-answer.ensures.worker c.limits.ensures,
    )

pub returns-clause-fills : goal.returns-clause-fills
returns-clause-fills g c =
    let is = subst (λ e. IsSource e.plan c.args.source) (sym c.self.view_is) c.requires.source in
    subst (λ e. IfOk c.load_source-answer.result (λ count. IfTold (left_of (g.S.Shelf.readers c.args.shelf.now c.args.id)) (Loads g.D.Spill.told c.args.source count e (record { plan = c.self.inside.plan; allot = c.self.inside.allot; phase = c.self.inside.phase; pool = c.self.inside.pool; worker = Some c.load_source-answer.new.worker; place = c.self.inside.place; disk = c.self.inside.disk; others = c.self.inside.others.items })))) c.self.view_is
    (fills g.D.Spill.told (record { plan = c.self.inside.plan; allot = c.self.inside.allot; phase = c.self.inside.phase; pool = c.self.inside.pool; worker = c.self.inside.worker; place = c.self.inside.place; disk = c.self.inside.disk; others = c.self.inside.others.items }) c.in-Some.worker c.load_source-answer.new.worker c.in-Some.is c.args.source is c.load_source-answer.result (left_of (g.S.Shelf.readers c.args.shelf.now c.args.id)) c.load_source-answer.ensures.stores)
