use Rattle.flink_job.proofs.Refusals.{all_refused}
use Rattle.flink_job.proofs.laws.job_refuses.Goals as goal

pub returns : goal.returns
returns c = all_refused
