-- It has a worker.
use Rattle.std.proofs.Common.{sym, ◌∙◌}
use Rattle.superstep.proofs.EngineLemmas.{must_be_ready, ready_to_end}
use Rattle.superstep.proofs.engine.Engine.close.Goals as goal

pub take_down-requires : goal.take_down-requires
take_down-requires g c =
    let ready = must_be_ready g.D.Spill.told c.args.self c.requires (sym c.is_staffed.ensures.is ∙ c.if-not-is_staffed.false) in
    ready_to_end g.D.Spill.told c.args.self ready (c.is_staffed.ensures.stands ready.worker ready.staffed.there)
