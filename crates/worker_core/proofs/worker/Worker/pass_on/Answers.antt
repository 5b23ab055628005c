-- The rows of one input of a node.
use Rattle.std.proofs.Common.{OnOk, ◌≡◌, Some, sym, subst, arith}
use Rattle.flow_model.specs.declared.plan.Node.{Node}
use Rattle.flow_model.specs.Rules.{node_at}
use Rattle.row_pipe.specs.Works.{work_of}
use Rattle.row_pipe.specs.declared.work.Work.{Work}
use Rattle.worker_core.specs.Workers.{HasStageCause, IsSound, PassesOn}
use Rattle.worker_core.proofs.NodeRows.{apart, cause_of, from_low, holds_taken, is_within, may_read, never_none, passed, pipe_is, pipe_low, sound_after, to_low, when_ok, worker_after}
use Rattle.worker_core.proofs.worker.Worker.pass_on.Goals as goal

pub index-requires : goal.index-requires
index-requires g c =
    let sound = subst (λ w. IsSound g.D.Spill.told c.args._plan.now w) (sym c.self.view_is) c.requires.sound in
    omega (arith, pipe_low g.D.Spill.told c.args._plan.now c.requires.rules.0 c.requires.rules.1 c.args.from c.args.to _ sound c.requires.takes, c.self.inside.pipes.ok)

pub unreachable-requires : goal.unreachable-requires
unreachable-requires g c =
    let sound = subst (λ w. IsSound g.D.Spill.told c.args._plan.now w) (sym c.self.view_is) c.requires.sound in
    never_none g.D.Spill.told c.args._plan.now c.requires.rules.0 c.requires.rules.1 c.args.from c.args.to _ sound c.requires.takes c.index.result.now c.index.ensures c.in-None.is

pub pipe_to_rest-requires-clause-there : goal.pipe_to_rest-requires-clause-there
pipe_to_rest-requires-clause-there g c =
    let sound = subst (λ w. IsSound g.D.Spill.told c.args._plan.now w) (sym c.self.view_is) c.requires.sound in
    (from_low g.D.Spill.told c.args._plan.now c.requires.rules.0 c.requires.rules.1 c.args.from c.args.to _ sound c.requires.takes, to_low g.D.Spill.told c.args._plan.now c.requires.rules.0 c.requires.rules.1 c.args.from c.args.to _ sound c.requires.takes, apart g.D.Spill.told c.args._plan.now c.requires.rules.0 c.requires.rules.1 c.args.from c.args.to _ sound c.requires.takes)

pub pipe_to_rest-requires-clause-may : goal.pipe_to_rest-requires-clause-may
pipe_to_rest-requires-clause-may g c =
    let sound = subst (λ w. IsSound g.D.Spill.told c.args._plan.now w) (sym c.self.view_is) c.requires.sound in
    may_read g.D.Spill.told c.args._plan.now c.requires.rules.0 c.requires.rules.1 c.args.from c.args.to _ sound c.requires.takes

pub pipe_to_rest-requires-clause-within : goal.pipe_to_rest-requires-clause-within
pipe_to_rest-requires-clause-within g c =
    let sound = subst (λ w. IsSound g.D.Spill.told c.args._plan.now w) (sym c.self.view_is) c.requires.sound in
    is_within g.D.Spill.told c.args._plan.now c.requires.rules.0 c.requires.rules.1 c.args.from c.args.to _ sound c.requires.takes c.in-Some.p
    (pipe_is g.D.Spill.told c.args._plan.now c.requires.rules.0 c.requires.rules.1 c.args.from c.args.to _ sound c.requires.takes c.index.result.now c.in-Some.p c.index.ensures c.in-Some.is)

pub pipe_to_rest-requires-clause-holds : goal.pipe_to_rest-requires-clause-holds
pipe_to_rest-requires-clause-holds g c =
    let sound = subst (λ w. IsSound g.D.Spill.told c.args._plan.now w) (sym c.self.view_is) c.requires.sound in
    holds_taken g.D.Spill.told c.args._plan.now c.requires.rules.0 c.requires.rules.1 c.args.from c.args.to _ sound c.requires.takes c.in-Some.p
    (pipe_is g.D.Spill.told c.args._plan.now c.requires.rules.0 c.requires.rules.1 c.args.from c.args.to _ sound c.requires.takes c.index.result.now c.in-Some.p c.index.ensures c.in-Some.is)

pub returns-clause-worker : goal.returns-clause-worker
returns-clause-worker g c =
    let sound = subst (λ w. IsSound g.D.Spill.told c.args._plan.now w) (sym c.self.view_is) c.requires.sound in
    worker_after g.D.Spill.told c.args._plan.now c.requires.rules.0 c.requires.rules.1 c.args.from c.args.to _ sound c.requires.takes c.pipe_to_rest.new.storage c.pipe_to_rest.ensures.stood c.pipe_to_rest.ensures.keeps
    c.pipe_to_rest.ensures.read c.pipe_to_rest.ensures.written

pub returns-clause-sound : goal.returns-clause-sound
returns-clause-sound g c =
    let sound = subst (λ w. IsSound g.D.Spill.told c.args._plan.now w) (sym c.self.view_is) c.requires.sound in
    when_ok c.pipe_to_rest.result _ _ (λ gains. sound_after g.D.Spill.told c.args._plan.now c.requires.rules.0 c.requires.rules.1 c.args.from c.args.to _ sound c.requires.takes c.pipe_to_rest.new.storage c.pipe_to_rest.ensures.stood c.pipe_to_rest.ensures.keeps
    c.in-Some.p (pipe_is g.D.Spill.told c.args._plan.now c.requires.rules.0 c.requires.rules.1 c.args.from c.args.to _ sound c.requires.takes c.index.result.now c.in-Some.p c.index.ensures c.in-Some.is) gains c.pipe_to_rest.ensures.read c.pipe_to_rest.ensures.written)
    c.pipe_to_rest.ensures.rows

pub returns-clause-passes : goal.returns-clause-passes
returns-clause-passes g c =
    let sound = subst (λ w. IsSound g.D.Spill.told c.args._plan.now w) (sym c.self.view_is) c.requires.sound in
    subst (λ w. OnOk c.pipe_to_rest.result ((o : Node) (v : Work) → node_at c.args._plan.now.nodes c.args.to ≡ Some o → Some v ≡ work_of o.op → PassesOn g.D.Spill.told c.args._plan.now.nodes c.args.from c.args.to v w.storage c.pipe_to_rest.new.storage)) c.self.view_is
    (when_ok c.pipe_to_rest.result _ _ (λ gains. passed g.D.Spill.told c.args._plan.now c.requires.rules.0 c.requires.rules.1 c.args.from c.args.to _ sound c.requires.takes c.pipe_to_rest.new.storage c.pipe_to_rest.ensures.stood c.pipe_to_rest.ensures.keeps
    c.in-Some.p (pipe_is g.D.Spill.told c.args._plan.now c.requires.rules.0 c.requires.rules.1 c.args.from c.args.to _ sound c.requires.takes c.index.result.now c.in-Some.p c.index.ensures c.in-Some.is) gains)
    c.pipe_to_rest.ensures.rows)

pub returns-clause-cause : goal.returns-clause-cause
returns-clause-cause g c =
    subst (λ w. HasStageCause (g.D.Spill.fault_count w.storage.disk) (g.D.Spill.fault_count c.pipe_to_rest.new.storage.disk) (g.D.Spill.told w.storage.disk) c.pipe_to_rest.new.storage c.pipe_to_rest.result) c.self.view_is
    (cause_of _ _ _ c.pipe_to_rest.new.storage c.args.from c.pipe_to_rest.result c.pipe_to_rest.ensures.cause)
