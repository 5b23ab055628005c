-- The lot stands in its place.
use Rattle.std.proofs.Common.{sym, subst}
use Rattle.worker_core.specs.Workers.{IsSound, MayTakeItsPlace, TakesItsPlace}
use Rattle.worker_core.proofs.Exchanging.{place_low, placed_sound, takes_its_place}
use Rattle.worker_core.proofs.worker.Worker.exchange_lot.Goals as goal

pub exchange-requires-clause-there : goal.exchange-requires-clause-there
exchange-requires-clause-there g c =
    place_low g.D.Spill.told c.args._plan.now c.requires.rules c.args.node _ (subst (λ w. IsSound g.D.Spill.told c.args._plan.now w) (sym c.self.view_is) c.requires.sound)
    c.args.lot.now (subst (λ w. MayTakeItsPlace g.D.Spill.told c.args._plan.now c.args.node w c.args.lot.now) (sym c.self.view_is) c.requires.lot)

pub returns-clause-sound : goal.returns-clause-sound
returns-clause-sound g c =
    subst (λ s. IsSound g.D.Spill.told c.args._plan.now (record { me = c.self.inside.me; workers = c.self.inside.workers; storage = s; pipes = c.self.inside.pipes.items })) (sym c.exchange.ensures.placed)
    (placed_sound g.D.Spill.told c.args._plan.now c.requires.rules c.args.node _ (subst (λ w. IsSound g.D.Spill.told c.args._plan.now w) (sym c.self.view_is) c.requires.sound)
    c.args.lot.now (subst (λ w. MayTakeItsPlace g.D.Spill.told c.args._plan.now c.args.node w c.args.lot.now) (sym c.self.view_is) c.requires.lot))

pub returns-clause-placed : goal.returns-clause-placed
returns-clause-placed g c =
    subst (λ w. TakesItsPlace g.D.Spill.told c.args._plan.now.nodes c.args.node c.args.lot.now w (record { me = c.self.inside.me; workers = c.self.inside.workers; storage = c.exchange.new.self; pipes = c.self.inside.pipes.items })) c.self.view_is
    (subst (λ s. TakesItsPlace g.D.Spill.told c.args._plan.now.nodes c.args.node c.args.lot.now (record { me = c.self.inside.me; workers = c.self.inside.workers; storage = c.self.inside.storage; pipes = c.self.inside.pipes.items })
    (record { me = c.self.inside.me; workers = c.self.inside.workers; storage = s; pipes = c.self.inside.pipes.items })) (sym c.exchange.ensures.placed)
    (takes_its_place g.D.Spill.told c.args._plan.now c.requires.rules c.args.node _ (subst (λ w. IsSound g.D.Spill.told c.args._plan.now w) (sym c.self.view_is) c.requires.sound)
    c.args.lot.now (subst (λ w. MayTakeItsPlace g.D.Spill.told c.args._plan.now c.args.node w c.args.lot.now) (sym c.self.view_is) c.requires.lot)))
