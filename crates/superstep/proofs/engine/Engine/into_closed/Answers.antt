-- The engine was taken apart.
use Rattle.std.proofs.Common.{ap, sym, ◌∙◌, ◌∷◌, reverse}
use Rattle.segment_core.proofs.Holders.{length-free}
use Rattle.superstep.specs.Engines.{EngineView, first_of}
use Rattle.superstep.proofs.EngineLemmas.{closes_disks, ledger_of, reverse_push}
use Rattle.superstep.proofs.engine.Engine.into_closed.Goals as goal

pub close-requires : goal.close-requires
close-requires g c = length-free c.drop_place.new.pool c.drop_place.ensures.free

pub returns-clause-disks : goal.returns-clause-disks
returns-clause-disks g c =
    closes_disks g.D.Spill.told g.D.Spill.fault_count c.args.self c.in-Some.disk c.drop_place.new.disk c.reverse.new.self.items
    (ap (λ o. first_of o c.args.self.disk) c.requires.gone ∙ ap (λ (e : EngineView _). e.disk) (sym c.self.view_is) ∙ c.in-Some.is)
    c.drop_place.ensures.disk
    (c.reverse.ensures.items ∙ ap reverse c.push_reserved.ensures.items ∙ reverse_push c.self.inside.others.items c.drop_place.new.disk ∙ ap (λ (e : EngineView _). c.drop_place.new.disk ∷ reverse e.others) c.self.view_is)

pub returns-clause-ledger : goal.returns-clause-ledger
returns-clause-ledger g c =
    ledger_of c.of-ledger.result c.args.self.pool.total (c.of-ledger.ensures.total ∙ c.drop_place.ensures.total ∙ ap (λ (e : EngineView _). e.pool.total) c.self.view_is)
    (c.of-ledger.ensures.free ∙ length-free c.drop_place.new.pool c.drop_place.ensures.free ∙ c.drop_place.ensures.total ∙ ap (λ (e : EngineView _). e.pool.total) c.self.view_is)
