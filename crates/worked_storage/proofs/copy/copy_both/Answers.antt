use Rattle.flow_outside.specs.Blocks.{BothTold}
use Rattle.lot_store.specs.Rows.{Gains, rows_of}
use Rattle.lot_store.specs.Storage.{lot_at}
use Rattle.worker_storage.specs.Storages.{given}
use Rattle.worked_storage.proofs.CopyLemmas.{gains_both, holds_second, keeps_both, keeps_first, may_read_second, ok_has, rests_both}
use Rattle.worked_storage.proofs.copy.copy_both.Goals as goal

pub pipe-requires-in-Ok-clause-may : goal.pipe-requires-in-Ok-clause-may
pipe-requires-in-Ok-clause-may g c = λ d.
    may_read_second g.D.Spill.told c.args.storage.now c.pipe.new.self c.requires.three c.pipe.ensures.keeps d (c.requires.may d)
    (rests_both c.pipe.result _ (lot_at c.pipe.new.self.lots 0 d) (lot_at c.pipe.new.self.lots 2 d) c.in-Ok.is (c.pipe.ensures.rests d)).0
    (rests_both c.pipe.result _ (lot_at c.pipe.new.self.lots 0 d) (lot_at c.pipe.new.self.lots 2 d) c.in-Ok.is (c.pipe.ensures.rests d)).1

pub pipe-requires-in-Ok-clause-holds : goal.pipe-requires-in-Ok-clause-holds
pipe-requires-in-Ok-clause-holds g c = λ d.
    holds_second g.D.Spill.told c.args.storage.now c.pipe.new.self c.requires.three c.pipe.ensures.keeps d c.args.p.now.takes c.limits.ensures (c.requires.other d)

pub returns-in-Err-clause-keeps : goal.returns-in-Err-clause-keeps
returns-in-Err-clause-keeps g c = keeps_first g.D.Spill.told c.args.storage.now c.pipe.new.self c.pipe.ensures.keeps

pub returns-in-Ok-clause-keeps : goal.returns-in-Ok-clause-keeps
returns-in-Ok-clause-keeps g c = keeps_both g.D.Spill.told c.args.storage.now c.pipe.new.self c.pipe-in-Ok.new.self c.pipe.ensures.keeps c.pipe-in-Ok.ensures.keeps

pub returns-in-Ok-clause-rows : goal.returns-in-Ok-clause-rows
returns-in-Ok-clause-rows g c = λ d.
    gains_both g.D.Spill.told c.args.storage.now c.pipe.new.self c.requires.three c.pipe.ensures.keeps c.pipe-in-Ok.result (g.D.Spill.told c.pipe-in-Ok.new.self.disk) d (lot_at c.pipe-in-Ok.new.self.lots 2 d)
    c.args.p.now.takes c.args.p.now.work c.limits.ensures (c.requires.other d)
    (ok_has c.pipe.result _ (BothTold (g.D.Spill.told c.args.storage.now.disk) (g.D.Spill.told c.pipe.new.self.disk) (Gains (lot_at c.args.storage.now.lots 2 d) (lot_at c.pipe.new.self.lots 2 d)
    (given c.args.p.now.takes c.args.p.now.work (rows_of (g.D.Spill.told c.args.storage.now.disk) (lot_at c.args.storage.now.lots 0 d))))) c.in-Ok.is (c.pipe.ensures.rows d))
    (c.pipe-in-Ok.ensures.rows d)
