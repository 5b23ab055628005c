-- The lot came to rest.
use Rattle.std.proofs.Common.{◌≡◌, sym, subst, OnOk}
use Rattle.flow_outside.specs.Told.{IfTold}
use Rattle.worker_core.specs.Workers.{HoldsNodes, HoldsTheSame, IsBeingFilled, IsSound}
use Rattle.worker_core.proofs.Reading.{the_node}
use Rattle.worker_core.proofs.Storing.{fill_low, rested_after, rested_same, rested_sound}
use Rattle.worker_core.proofs.worker.Worker.rest_lot.Goals as goal

pub rest-requires : goal.rest-requires
rest-requires g c =
    fill_low g.D.Spill.told c.args._plan.now c.requires.rules c.args.node _ (subst (λ w. IsBeingFilled g.D.Spill.told c.args._plan.now c.args.node w) (sym c.self.view_is) c.requires.filled) (the_node _ c.requires.node).0 (the_node _ c.requires.node).1

pub returns-clause-worker : goal.returns-clause-worker
returns-clause-worker g c =
    rested_after g.D.Spill.told c.args._plan.now c.requires.rules c.args.node _ (subst (λ w. IsBeingFilled g.D.Spill.told c.args._plan.now c.args.node w) (sym c.self.view_is) c.requires.filled) (the_node _ c.requires.node).0 (the_node _ c.requires.node).1
    c.rest.new.self c.rest.ensures.keeps c.rest.ensures.rests

pub returns-clause-sound : goal.returns-clause-sound
returns-clause-sound g c = λ holds.
    rested_sound g.D.Spill.told c.args._plan.now c.requires.rules c.args.node _ (subst (λ w. IsBeingFilled g.D.Spill.told c.args._plan.now c.args.node w) (sym c.self.view_is) c.requires.filled) (the_node _ c.requires.node).0 (the_node _ c.requires.node).1
    c.rest.new.self c.rest.ensures.keeps c.limits.ensures (subst (λ w. IfTold (g.D.Spill.told w.storage.disk) (HoldsNodes c.args._plan.now.nodes w.storage.lots)) (sym c.self.view_is) holds)
    c.rest.result c.rest.ensures.rests c.rest.ensures.rows

pub returns-clause-same : goal.returns-clause-same
returns-clause-same g c = λ holds.
    subst (λ w. OnOk c.rest.result (HoldsTheSame g.D.Spill.told c.args._plan.now.nodes w (record { me = c.self.inside.me; workers = c.self.inside.workers; storage = c.rest.new.self; pipes = c.self.inside.pipes.items }))) c.self.view_is
    (rested_same g.D.Spill.told c.args._plan.now c.requires.rules c.args.node _ (subst (λ w. IsBeingFilled g.D.Spill.told c.args._plan.now c.args.node w) (sym c.self.view_is) c.requires.filled) (the_node _ c.requires.node).0 (the_node _ c.requires.node).1
    c.rest.new.self c.rest.ensures.keeps c.limits.ensures (subst (λ w. IfTold (g.D.Spill.told w.storage.disk) (HoldsNodes c.args._plan.now.nodes w.storage.lots)) (sym c.self.view_is) holds)
    c.rest.result c.rest.ensures.rows)
