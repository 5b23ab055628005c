-- The worker ended, and its segments went back to the pool.
use Rattle.std.proofs.Common.{◌≡◌, ℕ, Some, sym, subst, ◌∙◌}
use Rattle.segment_core.specs.Segments.{segment_sum}
use Rattle.worker_core.specs.Workers.{SparesBeside}
use Rattle.superstep.specs.EngineSteps.{MayBeTakenDown, TakesDown}
use Rattle.superstep.specs.Opening.{worker_sum}
use Rattle.superstep.proofs.EngineLemmas.{is_down, takes_down}
use Rattle.superstep.proofs.Ledgers.{all_back, gave_all, may_return}
use Rattle.superstep.proofs.engine.Engine.take_down.Goals as goal

pub restore-requires : goal.restore-requires
restore-requires g c =
    let may = subst (λ e. MayBeTakenDown g.D.Spill.told e) (sym c.self.view_is) c.requires in
    let both : Some may.worker ≡ Some c.in-Some.worker = sym may.there ∙ sym c.take.ensures.value ∙ c.in-Some.is in
    let one : may.worker ≡ c.in-Some.worker = cc in
    let sums : (h : ℕ → ℕ → ℕ) → segment_sum h c.end-purse.result.purse.pages ≡ worker_sum h may.worker.storage = subst (λ w. (h : ℕ → ℕ → ℕ) → segment_sum h c.end-purse.result.purse.pages ≡ worker_sum h w.storage) (sym one) c.end-purse.ensures.segments in
    let ledger = gave_all c.self.inside.pool may.worker.storage c.end-purse.result.purse.pages sums may.accounted in
    may_return c.self.inside.pool c.end-purse.result.purse.pages ledger

pub returns-clause-down : goal.returns-clause-down
returns-clause-down g c =
    let may = subst (λ e. MayBeTakenDown g.D.Spill.told e) (sym c.self.view_is) c.requires in
    let both : Some may.worker ≡ Some c.in-Some.worker = sym may.there ∙ sym c.take.ensures.value ∙ c.in-Some.is in
    let one : may.worker ≡ c.in-Some.worker = cc in
    let sums : (h : ℕ → ℕ → ℕ) → segment_sum h c.end-purse.result.purse.pages ≡ worker_sum h may.worker.storage = subst (λ w. (h : ℕ → ℕ → ℕ) → segment_sum h c.end-purse.result.purse.pages ≡ worker_sum h w.storage) (sym one) c.end-purse.ensures.segments in
    let ledger = gave_all c.self.inside.pool may.worker.storage c.end-purse.result.purse.pages sums may.accounted in
    let beside : SparesBeside g.D.Spill.told may.worker.storage c.end-purse.result.disk = subst (λ w. SparesBeside g.D.Spill.told w.storage c.end-purse.result.disk) (sym one) c.end-purse.ensures.beside in
    let stays = beside c.self.inside.place may.beside.bare.none may.beside.stands in
    is_down g.D.Spill.told _ may c.args.phase c.restore.new.self c.take.new.self c.take.ensures.after c.end-purse.result.disk stays c.restore.ensures.size
    (all_back c.self.inside.pool c.restore.new.self c.end-purse.result.purse.pages c.restore.ensures.total c.restore.ensures.size c.restore.ensures.ledger ledger)

pub returns-clause-takes : goal.returns-clause-takes
returns-clause-takes g c =
    let may = subst (λ e. MayBeTakenDown g.D.Spill.told e) (sym c.self.view_is) c.requires in
    let both : Some may.worker ≡ Some c.in-Some.worker = sym may.there ∙ sym c.take.ensures.value ∙ c.in-Some.is in
    let one : may.worker ≡ c.in-Some.worker = cc in
    let sums : (h : ℕ → ℕ → ℕ) → segment_sum h c.end-purse.result.purse.pages ≡ worker_sum h may.worker.storage = subst (λ w. (h : ℕ → ℕ → ℕ) → segment_sum h c.end-purse.result.purse.pages ≡ worker_sum h w.storage) (sym one) c.end-purse.ensures.segments in
    let ledger = gave_all c.self.inside.pool may.worker.storage c.end-purse.result.purse.pages sums may.accounted in
    let beside : SparesBeside g.D.Spill.told may.worker.storage c.end-purse.result.disk = subst (λ w. SparesBeside g.D.Spill.told w.storage c.end-purse.result.disk) (sym one) c.end-purse.ensures.beside in
    let stays = beside c.self.inside.place may.beside.bare.none may.beside.stands in
    subst (λ e. TakesDown g.D.Spill.told e (record { plan = c.self.inside.plan; allot = c.self.inside.allot; phase = c.args.phase; pool = c.restore.new.self; worker = c.take.new.self; place = c.self.inside.place; disk = Some c.end-purse.result.disk; others = c.self.inside.others.items })) c.self.view_is
    (takes_down g.D.Spill.told _ may c.args.phase c.restore.new.self c.take.new.self c.take.ensures.after c.end-purse.result.disk stays)
