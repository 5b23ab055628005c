use Rattle.std.proofs.Common.{◌≡◌, sym, ap, ◌∙◌, subst, option_map}
use Rattle.job_words.specs.Words.{Task}
use Rattle.job_words.specs.Requests.{asked, tasked, all_bound, budgeted}
use Rattle.flink_job.specs.Outcome.{HasPlan}
use Rattle.flink_job.specs.Stops.{EndsStopped}
use Rattle.flink_job.proofs.run.run_request.Goals as goal

pub returns : goal.returns
returns g c =
    let asks : (asked c.args.request.now).task ≡ Task.run (option_map budgeted c.in-Run.budget) (all_bound c.as_slice.result.now) =
    ap tasked c.in-Run.is ∙ ap (λ bs. Task.run (option_map budgeted c.in-Run.budget) (all_bound bs)) (sym c.as_slice.ensures.value) in
    let has : HasPlan c.args.program (g.S.Shelf.told c.read_plan_file.new.shelf) (asked c.args.request.now) c.in-Ok.plan =
    subst (λ files. HasPlan c.args.program files (asked c.args.request.now) c.in-Ok.plan) (sym c.in-Ok.ensures.tells) (record { told = c.in-Ok.ensures.served; rules = c.in-Ok.ensures.rules }) in
    subst (λ files. EndsStopped c.args.program (record { told = files; before = g.S.Shelf.faults_at c.args.shelf.now; after = g.S.Shelf.faults_at c.run_plan.new.shelf; living = g.S.Shelf.living c.run_plan.new.shelf }) (record { old = g.K.Sink.told c.args.out.now; new = g.K.Sink.told c.run_plan.new.out; before = g.K.Sink.fault_count c.args.out.now; after = g.K.Sink.fault_count c.run_plan.new.out }) (asked c.args.request.now) c.run_plan.result)
    c.in-Ok.ensures.tells
    (c.run_plan.ensures c.args.program (asked c.args.request.now) (g.S.Shelf.faults_at c.args.shelf.now) c.in-Ok.ensures.later asks has)
