use Rattle.std.proofs.Common.{◌*◌, ◌+◌}
use Rattle.plan_exprs.proofs.exprs.+expr.Given as goal

-- how many lists may still be opened, and then how far the call is from the next expression
abbrev pub decreases-expr_of : goal.decreases-expr_of
decreases-expr_of l = 4 * l.lists

abbrev pub decreases-of_items : goal.decreases-of_items
decreases-of_items l = 4 * l.lists + 3

abbrev pub decreases-of_one : goal.decreases-of_one
decreases-of_one l = 4 * l.lists + 2

abbrev pub decreases-of_two : goal.decreases-of_two
decreases-of_two l = 4 * l.lists + 2

abbrev pub decreases-of_three : goal.decreases-of_three
decreases-of_three l = 4 * l.lists + 2

abbrev pub decreases-un : goal.decreases-un
decreases-un l = 4 * l.lists + 1

abbrev pub decreases-bin : goal.decreases-bin
decreases-bin l = 4 * l.lists + 1

abbrev pub decreases-cut : goal.decreases-cut
decreases-cut l = 4 * l.lists + 1

abbrev pub decreases-choice : goal.decreases-choice
decreases-choice l = 4 * l.lists + 1
