use Rattle.std.specs.Prelude.{ℕ, ◌==◌, if◌then◌else◌, List, [], ◌∷◌, codes, decimal, Option, Some, None}
use Rattle.std.specs.List.{concat}
use Rattle.flow_model.specs.declared.plan_code.PlanCode.{PlanCode}
use Rattle.flow_model.specs.declared.plan_code.PlanCode.TheVariants as code
use Rattle.delim_io.specs.declared.input_kind.InputKind.{InputKind}
use Rattle.delim_io.specs.declared.input_kind.InputKind.TheVariants as kind
use Rattle.job_report.specs.declared.fault.Fault.{Fault}
use Rattle.job_report.specs.declared.fault.Fault.TheVariants as fault
use Rattle.job_words.specs.declared.program.Program.{Program}
use Rattle.job_words.specs.declared.program.Program.TheVariants as program

-- The statuses, and the lines that the programs write, are this project's own.

abbrev pub code_text : PlanCode → List ℕ
code_text code.TooBig = codes "TooBig"
code_text code.BadJson = codes "BadJson"
code_text code.BadPlan = codes "BadPlan"
code_text code.TooMany = codes "TooMany"
code_text code.BadNode = codes "BadNode"
code_text code.BadName = codes "BadName"
code_text code.BadExpr = codes "BadExpr"
code_text code.Duplicate = codes "Duplicate"
code_text code.Misplaced = codes "Misplaced"
code_text code.UnknownName = codes "UnknownName"
code_text code.BadField = codes "BadField"
code_text code.BadTypes = codes "BadTypes"
code_text code.BadWidth = codes "BadWidth"
code_text code.NoFit = codes "NoFit"
code_text code.BadResult = codes "BadResult"
code_text code.NotBuilt = codes "NotBuilt"

abbrev pub kind_text : InputKind → List ℕ
kind_text kind.OddQuotes = codes "OddQuotes"
kind_text kind.Split = codes "Split"
kind_text kind.FieldCount = codes "FieldCount"
kind_text kind.BadLong = codes "BadLong"
kind_text kind.BadBool = codes "BadBool"
kind_text kind.BadText = codes "BadText"
kind_text kind.TooLong = codes "TooLong"
kind_text kind.LineTooLong = codes "LineTooLong"
kind_text kind.Endless = codes "Endless"
kind_text kind.NotBuilt = codes "NotBuilt"

-- the line of a program's usage
abbrev pub usage_text : Program → List ℕ
usage_text program.FlinkRun = codes "usage: flink_run check PLAN | need PLAN WORKERS | explain PLAN WORKERS SEGMENTS | run PLAN WORKERS SEGMENTS NAME=PATH... | drill NUMBER ROWS WORKERS SEGMENTS\n"
usage_text program.PlainRun = codes "usage: plain_run PLAN NAME=PATH...\n"

-- what couldn't be read: the plan's file, or the input of the source with this name
abbrev pub read_text : List ℕ → ℕ → List ℕ
read_text name source =
    if source == 0 then codes "read failed: plan file\n" else concat (codes "read failed: input " ∷ name ∷ codes "\n" ∷ [])

-- the line of an input that is refused: its source's name, the line, the field and the kind
abbrev pub input_line : (name line field kind : List ℕ) → List ℕ
input_line name line field kind =
    concat (codes "input refused: " ∷ name ∷ codes " line " ∷ line ∷ codes " field " ∷ field ∷ codes ": " ∷ kind ∷ codes "\n" ∷ [])

-- the line of a solution set that is full: its node, the superstep, the worker, and the bytes that are needed and there
abbrev pub full_line : (node step worker need have : List ℕ) → List ℕ
full_line node step worker need have =
    concat (codes "solution full: node " ∷ node ∷ codes " superstep " ∷ step ∷ codes " worker " ∷ worker ∷ codes " need " ∷ need ∷ codes " have " ∷ have ∷ codes "\n" ∷ [])

-- the line of a program's fault; the name is that of the source that it speaks of
abbrev pub line_of : Program → (name : List ℕ) → Fault → List ℕ
line_of p name fault.Usage = usage_text p
line_of p name (fault.PlanRefused node code) = concat (codes "plan refused: node " ∷ decimal node ∷ codes ": " ∷ code_text code ∷ codes "\n" ∷ [])
line_of p name (fault.InputRefused source line field kind) = input_line name (decimal line) (decimal field) (kind_text kind)
line_of p name (fault.ReadFault source) = read_text name source
line_of p name fault.WriteFault = codes "write failed\n"
line_of p name fault.Memory = codes "out of memory\n"
line_of p name (fault.TooSmall need have) =
    concat (codes "too few segments: need " ∷ decimal need ∷ codes " have " ∷ decimal have ∷ codes "\n" ∷ [])
line_of p name (fault.Unbound source) = concat (codes "input not bound: " ∷ source ∷ codes "\n" ∷ [])
line_of p name (fault.SpillFault worker) = concat (codes "spill failed: worker " ∷ decimal worker ∷ codes "\n" ∷ [])
line_of p name (fault.Damaged worker block) =
    concat (codes "spill damaged: worker " ∷ decimal worker ∷ codes " block " ∷ decimal block ∷ codes "\n" ∷ [])
line_of p name (fault.SolutionFull node step worker need have) =
    full_line (decimal node) (decimal step) (decimal worker) (decimal need) (decimal have)

-- what is told of an end: nothing where all was written
abbrev pub report_of : Program → (name : List ℕ) → Option Fault → List ℕ
report_of p name None = []
report_of p name (Some fault) = line_of p name fault

-- the status of an end
abbrev pub status_of : Option Fault → ℕ
status_of None = 0
status_of (Some fault.Usage) = 2
status_of (Some (fault.PlanRefused node code)) = 3
status_of (Some (fault.InputRefused source line field kind)) = 4
status_of (Some (fault.ReadFault source)) = 5
status_of (Some fault.WriteFault) = 8
status_of (Some fault.Memory) = 9
status_of (Some (fault.TooSmall need have)) = 10
status_of (Some (fault.Unbound source)) = 12
status_of (Some (fault.SpillFault worker)) = 6
status_of (Some (fault.Damaged worker block)) = 11
status_of (Some (fault.SolutionFull node step worker need have)) = 7

-- what is told of a plan that is accepted: its nodes, bodies counted, and the bytes of its widest record
abbrev pub check_text : (nodes widest : ℕ) → List ℕ
check_text nodes widest =
    concat (codes "plan ok: " ∷ decimal nodes ∷ codes " nodes, widest record " ∷ decimal widest ∷ codes " bytes\n" ∷ [])

-- what is told of the segments that a plan needs
abbrev pub need_text : ℕ → List ℕ
need_text need = concat (codes "need " ∷ decimal need ∷ codes "\n" ∷ [])
