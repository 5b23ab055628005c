use Rattle.plan_check.proofs.Plans.{rules_read}
use Rattle.plan_check.proofs.Trees.{reading_leaves_trees}
use Rattle.plan_check.proofs.check.plan_from.Goals as goal

pub returns-in-Ok-clause-keeps : goal.returns-in-Ok-clause-keeps
returns-in-Ok-clause-keeps c =
    rules_read c.check.result c.in-Ok.tree (reading_leaves_trees c.args.bytes.now c.in-Ok.tree c.in-Ok.ensures) c.check.ensures.keeps
