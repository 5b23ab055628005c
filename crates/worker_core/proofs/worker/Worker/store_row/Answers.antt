-- A row stands behind the others.
use Rattle.std.proofs.Common.{◌≡◌, ℕ, ◌<◌, ◌≤◌, ◌^◌, length, sym, subst, arith, OnOk}
use Rattle.flow_outside.specs.Told.{IfTold}
use Rattle.lot_store.specs.LotCalls.{IsSupplied}
use Rattle.lot_store.specs.Lots.{LotView}
use Rattle.lot_store.specs.Storage.{lot_at}
use Rattle.worker_core.specs.Workers.{IsFilling, Stores}
use Rattle.worker_core.proofs.Storing.{fill_low, filled_after, is_short, stored_filling, stored_rows}
use Rattle.worker_core.proofs.worker.Worker.store_row.Goals as goal

pub append-requires-clause-there : goal.append-requires-clause-there
append-requires-clause-there g c =
    let filling = subst (λ w. IsFilling g.D.Spill.told c.args._plan.now c.args.node w) (sym c.self.view_is) c.requires.filling in
    fill_low g.D.Spill.told c.args._plan.now c.requires.rules c.args.node _ filling.filled c.requires.row.node c.requires.row.found

pub append-requires-clause-len : goal.append-requires-clause-len
append-requires-clause-len g c = omega (arith, c.requires.row.short)

pub append-requires-clause-supply : goal.append-requires-clause-supply
append-requires-clause-supply g c =
    let filling = subst (λ w. IsFilling g.D.Spill.told c.args._plan.now c.args.node w) (sym c.self.view_is) c.requires.filling in
    filling.supply

pub returns-clause-filled : goal.returns-clause-filled
returns-clause-filled g c =
    let filling = subst (λ w. IsFilling g.D.Spill.told c.args._plan.now c.args.node w) (sym c.self.view_is) c.requires.filling in
    filled_after g.D.Spill.told c.args._plan.now c.requires.rules c.args.node _ filling.filled c.requires.row.node c.requires.row.found c.append.new.self c.append.ensures.keeps

pub returns-clause-filling : goal.returns-clause-filling
returns-clause-filling g c =
    let filling = subst (λ w. IsFilling g.D.Spill.told c.args._plan.now c.args.node w) (sym c.self.view_is) c.requires.filling in
    stored_filling g.D.Spill.told c.args._plan.now c.requires.rules c.args.node _ filling.filled c.requires.row.node c.requires.row.found c.append.new.self c.append.ensures.keeps c.limits.ensures filling.holds
    (g.X.Span.seen c.args.row.now) c.requires.row.is c.append.result
    (λ d. c.append.ensures.rows d (is_short g.D.Spill.told c.args._plan.now c.requires.rules c.args.node _ filling.filled c.requires.row.node c.requires.row.found (g.X.Span.seen c.args.row.now) c.requires.row.is d))
    c.append.ensures.supply

pub returns-clause-stores : goal.returns-clause-stores
returns-clause-stores g c =
    let filling = subst (λ w. IsFilling g.D.Spill.told c.args._plan.now c.args.node w) (sym c.self.view_is) c.requires.filling in
    subst (λ w. OnOk c.append.result (IfTold (g.D.Spill.told w.storage.disk) (λ _. Stores g.D.Spill.told c.args._plan.now.nodes c.args.node (g.X.Span.seen c.args.row.now) w (record { me = c.self.inside.me; workers = c.self.inside.workers; storage = c.append.new.self; pipes = c.self.inside.pipes.items })))) c.self.view_is
    (stored_rows g.D.Spill.told c.args._plan.now c.requires.rules c.args.node _ filling.filled c.requires.row.node c.requires.row.found c.append.new.self c.append.ensures.keeps c.limits.ensures filling.holds
    (g.X.Span.seen c.args.row.now) c.requires.row.is c.append.result
    (λ d. c.append.ensures.rows d (is_short g.D.Spill.told c.args._plan.now c.requires.rules c.args.node _ filling.filled c.requires.row.node c.requires.row.found (g.X.Span.seen c.args.row.now) c.requires.row.is d)))
