use Rattle.std.specs.Prelude.{◌≡◌, ◌++◌, List, Result, Ok, Err, ⊤}
use Rattle.plan_text.specs.declared.tree.TreeNode.{TreeNode}
use Rattle.plan_text.specs.declared.fault.PlanFault.{PlanFault}
use Rattle.plan_text.specs.declared.fault.PlanFault.TheVariants as fault

-- What calls answer, beside what a definition gives.

-- a fault that is the definition's; after want of memory nothing is known
abbrev pub IsFault : {A : Type 0} → PlanFault → Result A PlanFault → Type 0
IsFault fault.Memory given = ⊤
IsFault (fault.Refused node code) given = given ≡ Err (fault.Refused node code)

-- a value or a fault that is the definition's
abbrev pub Tells : {A : Type 0} → Result A PlanFault → Result A PlanFault → Type 0
Tells (Ok x) given = given ≡ Ok x
Tells (Err f) given = IsFault f given

-- the definition's nodes were added at the end of a list, or the fault is the definition's
abbrev pub Adds : List TreeNode → List TreeNode → Result Unit PlanFault → Result (List TreeNode) PlanFault → Type 0
Adds old new (Ok _) given = (more : List TreeNode) × (given ≡ Ok more) × (new ≡ old ++ more)
Adds old new (Err f) given = IsFault f given
