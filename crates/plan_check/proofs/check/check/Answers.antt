use Rattle.plan_check.proofs.Plans.{rules_told}
use Rattle.plan_check.proofs.check.check.Goals as goal

pub returns-clause-keeps : goal.returns-clause-keeps
returns-clause-keeps c = rules_told c.walk_tree.result c.args.tree c.walk_tree.ensures
