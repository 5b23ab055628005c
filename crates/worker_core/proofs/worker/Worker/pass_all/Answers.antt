-- One input more.
use Rattle.std.proofs.Common.{arith, refl, subst}
use Rattle.std.specs.Prelude.{slice_index_or}
use Rattle.std.proofs.lemmas.List.{take_all}
use Rattle.worker_core.specs.Workers.{StagesAll}
use Rattle.worker_core.proofs.NodeRows.{apart, kept_turn, staged_turn, takes_of}
use Rattle.worker_core.proofs.worker.Worker.pass_all.Goals as goal

pub returns-in-Err-clause-keeps : goal.returns-in-Err-clause-keeps
returns-in-Err-clause-keeps g c =
    kept_turn g.D.Spill.told c.args.self.now c.inputs.self c.pass_on.new.self (slice_index_or c.args.inputs.now c.inputs.input-index 0) c.args.to c.inputs.input-index c.args.inputs.now c.inputs-test.true refl c.inputs.invariant.keeps c.pass_on.ensures.keeps

pub inputs-preserved : goal.inputs-preserved
inputs-preserved g c =
    let takes = takes_of c.args.plan.now.nodes c.args.to c.args.inputs.now c.inputs.input-index c.requires.node (c.requires.inputs c.requires.node.node c.requires.node.found) c.inputs-test.true in
    record {
      sound = c.in-Ok.ensures.sound;
      keeps = kept_turn g.D.Spill.told c.args.self.now c.inputs.self c.pass_on.new.self (slice_index_or c.args.inputs.now c.inputs.input-index 0) c.args.to c.inputs.input-index c.args.inputs.now c.inputs-test.true refl c.inputs.invariant.keeps c.pass_on.ensures.keeps;
      later = omega (arith, c.inputs.invariant.later, c.pass_on.ensures.cause.cause.later);
      stages = λ o w there does.
          staged_turn g.D.Spill.told c.args.plan.now.nodes c.args.to (slice_index_or c.args.inputs.now c.inputs.input-index 0) c.inputs.input-index c.args.inputs.now w c.args.self.now.storage c.inputs.self.storage c.pass_on.new.self.storage
          (apart g.D.Spill.told c.args.plan.now c.requires.rules.0 c.requires.rules.1 (slice_index_or c.args.inputs.now c.inputs.input-index 0) c.args.to c.inputs.self c.inputs.invariant.sound takes) c.inputs-test.true refl (c.inputs.invariant.stages o w there does) (c.in-Ok.ensures.passes o w there does);
    }

pub returns-clause-stages : goal.returns-clause-stages
returns-clause-stages g c = λ o w there does.
    subst (λ ns. StagesAll g.D.Spill.told c.args.plan.now.nodes ns c.args.to w c.args.self.now.storage c.inputs.self.storage) (take_all c.inputs.input-index c.args.inputs.now (omega (arith, c.inputs-test.false)))
    (c.inputs.invariant.stages o w there does)
