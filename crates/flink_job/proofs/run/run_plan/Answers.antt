use Rattle.std.proofs.Common.{refl, sym, ◌∙◌, option_map}
use Rattle.job_words.specs.Requests.{all_bound, budgeted}
use Rattle.flink_job.proofs.Ends.{stopped_at_input}
use Rattle.flink_job.proofs.run.run_plan.Goals as goal

pub returns-in-Err-read_inputs : goal.returns-in-Err-read_inputs
returns-in-Err-read_inputs g c =
    stopped_at_input (g.S.Shelf.told c.args.shelf.now) (g.S.Shelf.faults_at c.args.shelf.now) (g.S.Shelf.faults_at c.read_inputs.new.shelf) (g.S.Shelf.living c.read_inputs.new.shelf) _
    c.args.plan.now (option_map budgeted c.args.budget) (all_bound c.args.bindings.now) c.in-Err-read_inputs.stopped
    c.requires.plan refl (sym c.in-Ok-None.ensures ∙ c.in-Ok-None.field-0-is) c.in_default.ensures c.in-Err-read_inputs.ensures.refused
