use Rattle.model_laws.proofs.PlanFit.{plan-fits}
use Rattle.model_laws.proofs.schemas.plans_fit.Goals as goal

pub returns : goal.returns
returns c = plan-fits
