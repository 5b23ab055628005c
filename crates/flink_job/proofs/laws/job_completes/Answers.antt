use Rattle.flink_job.proofs.Complete.{all_completes}
use Rattle.flink_job.proofs.laws.job_completes.Goals as goal

pub returns : goal.returns
returns c = all_completes
