-- The node's lot was read.
use Rattle.std.proofs.Common.{◌≡◌, ℕ, ◌-◌, ◌^◌, length, min, sym, subst}
use Rattle.std.specs.Prelude.{IfOk}
use Rattle.flow_outside.specs.Told.{IfTold}
use Rattle.lot_store.specs.Lots.{empty}
use Rattle.worker_core.specs.Workers.{HasStageCause, IsSound, worker_rows}
use Rattle.worker_core.proofs.Reading.{counted, is_whole, may_be_read, read_low, read_rows, read_sound, the_node}
use Rattle.worker_core.proofs.worker.Worker.rows.Goals as goal

pub rows-requires-clause-there : goal.rows-requires-clause-there
rows-requires-clause-there g c =
    read_low g.D.Spill.told c.args._plan.now c.requires.rules c.args.node _ (subst (λ w. IsSound g.D.Spill.told c.args._plan.now w) (sym c.self.view_is) c.requires.sound) (the_node _ c.requires.node).0 (the_node _ c.requires.node).1

pub rows-requires-clause-may : goal.rows-requires-clause-may
rows-requires-clause-may g c =
    may_be_read g.D.Spill.told c.args._plan.now c.requires.rules c.args.node _ (subst (λ w. IsSound g.D.Spill.told c.args._plan.now w) (sym c.self.view_is) c.requires.sound) (the_node _ c.requires.node).0 (the_node _ c.requires.node).1

pub rows-requires-clause-whole : goal.rows-requires-clause-whole
rows-requires-clause-whole g c =
    is_whole g.D.Spill.told c.args._plan.now c.requires.rules c.args.node _ (subst (λ w. IsSound g.D.Spill.told c.args._plan.now w) (sym c.self.view_is) c.requires.sound) (the_node _ c.requires.node).0 (the_node _ c.requires.node).1

pub returns-clause-count : goal.returns-clause-count
returns-clause-count g c =
    subst (λ w. IfOk c.rows.result (λ count. IfTold (g.D.Spill.told w.storage.disk) (λ _. count ≡ min (length (worker_rows g.D.Spill.told c.args._plan.now.nodes w c.args.node)) (2 ^ 64 - 1)))) c.self.view_is
    (counted g.D.Spill.told c.args._plan.now c.requires.rules c.args.node _ (subst (λ w. IsSound g.D.Spill.told c.args._plan.now w) (sym c.self.view_is) c.requires.sound) (the_node _ c.requires.node).0 (the_node _ c.requires.node).1 c.rows.result c.rows.ensures.count)

pub returns-clause-sound : goal.returns-clause-sound
returns-clause-sound g c =
    read_sound g.D.Spill.told c.args._plan.now c.requires.rules c.args.node _ (subst (λ w. IsSound g.D.Spill.told c.args._plan.now w) (sym c.self.view_is) c.requires.sound) (the_node _ c.requires.node).0 (the_node _ c.requires.node).1 c.rows.new.self c.limits.ensures c.rows.ensures.keeps c.rows.ensures.rests

pub returns-clause-same : goal.returns-clause-same
returns-clause-same g c =
    subst (λ w. (n : ℕ) → worker_rows g.D.Spill.told c.args._plan.now.nodes (record { me = c.self.inside.me; workers = c.self.inside.workers; storage = c.rows.new.self; pipes = c.self.inside.pipes.items }) n ≡ worker_rows g.D.Spill.told c.args._plan.now.nodes w n) c.self.view_is
    (read_rows g.D.Spill.told c.args._plan.now c.requires.rules c.args.node _ (subst (λ w. IsSound g.D.Spill.told c.args._plan.now w) (sym c.self.view_is) c.requires.sound) (the_node _ c.requires.node).0 (the_node _ c.requires.node).1 c.rows.new.self c.limits.ensures c.rows.ensures.keeps)

pub returns-clause-cause : goal.returns-clause-cause
returns-clause-cause g c =
    subst (λ w. HasStageCause (g.D.Spill.fault_count w.storage.disk) (g.D.Spill.fault_count c.rows.new.self.disk) (g.D.Spill.told w.storage.disk) c.rows.new.self c.rows.result) c.self.view_is
    (record { cause = (c.rows.ensures.cause (empty 0 0)).cause; damaged = λ block is. (c.args.node, (c.rows.ensures.cause (empty 0 0)).damaged block is) })
