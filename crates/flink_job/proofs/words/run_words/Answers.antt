use Rattle.std.proofs.Common.{sym, ap, ◌∙◌}
use Rattle.job_words.specs.Requests.{asked, asked_in}
use Rattle.flink_job.proofs.Ends.{outcome_of}
use Rattle.flink_job.proofs.words.run_words.Goals as goal

pub returns-in-Ok-Some : goal.returns-in-Ok-Some
returns-in-Ok-Some g c =
    outcome_of c.args.program c.args.words.now _ _ _ c.ended-in-Ok-Some.result.status c.ended-in-Ok-Some.result.fault (asked c.in-Ok-Some.request) c.run_request-stopped.result
    (ap asked_in (sym c.in-Ok-Some.field-0-is) ∙ c.in-Ok-Some.ensures.asked) c.run_request-stopped.ensures c.ended-in-Ok-Some.ensures.fault c.ended-in-Ok-Some.ensures.status c.ended-in-Ok-Some.ensures.reported
