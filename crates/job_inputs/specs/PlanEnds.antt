use Rattle.std.specs.Prelude.{◌≡◌, ℕ, List, Option, Err, ⊤}
use Rattle.flow_outside.specs.Causes.{Rose}
use Rattle.flow_outside.specs.Files.{Files, IfFileTold}
use Rattle.plan_text.specs.declared.fault.PlanFault.TheVariants as plan_fault
use Rattle.job_words.specs.declared.program.Program.{Program}
use Rattle.job_report.specs.declared.fault.Fault.{Fault}
use Rattle.job_report.specs.declared.fault.Fault.TheVariants as fault
use Rattle.job_inputs.specs.Served.{served}

-- How the reading of a plan's file ends that gives no plan, by cases on the fault. Where the shelf doesn't tell, what
-- is said of bytes is open and the cause stands alone. After want of memory nothing is known. The rule is this project's own.

-- A plan's file that gives no plan: the count of faults at it rose, or its bytes are refused with this code at this node.
abbrev pub EndsReadingPlan : Program → Option Files → (name : List ℕ) → (before after : ℕ) → Fault → Type 0
EndsReadingPlan p files name before after (fault.ReadFault source) = (source ≡ 0) × Rose before after
EndsReadingPlan p files name before after (fault.PlanRefused node why) = IfFileTold files name (λ bytes. served p bytes ≡ Err (plan_fault.Refused node why))
EndsReadingPlan p files name before after fault.Memory = ⊤
EndsReadingPlan p files name before after _ = ⊥
