use Rattle.job_inputs.proofs.Serves.{serves_plans}
use Rattle.job_inputs.proofs.plan.serve.Goals as goal

pub returns-in-Ok-clause-rules : goal.returns-in-Ok-clause-rules
returns-in-Ok-clause-rules c = serves_plans c.args.program c.args.bytes.now c.in-Ok.tree c.serve_tree.result c.in-Ok.ensures c.serve_tree.ensures
