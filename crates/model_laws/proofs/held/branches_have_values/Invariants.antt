use Rattle.std.specs.Prelude.{IsTrue, take}
use Rattle.std.specs.List.{list_all}
use Rattle.model_laws.specs.LawsOfFits.{branch_has_values}
use Rattle.model_laws.proofs.held.branches_have_values.Given as goal

abbrev pub invariant-loop-branch : goal.invariant-loop-branch
invariant-loop-branch l = IsTrue (list_all branch_has_values (take l.branch-index l.branches))
