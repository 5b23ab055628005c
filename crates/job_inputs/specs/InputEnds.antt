use Rattle.std.specs.Prelude.{◌≡◌, ℕ, List, Option, Some, None, ⊤}
use Rattle.flow_outside.specs.Causes.{Rose}
use Rattle.flow_outside.specs.Files.{Files, IfFileTold}
use Rattle.flow_model.specs.declared.plan.Node.{Node}
use Rattle.delim_io.specs.declared.input_kind.InputKind.{InputKind}
use Rattle.delim_io.specs.declared.input_kind.InputKind.TheVariants as kind
use Rattle.job_words.specs.Words.{Binding}
use Rattle.job_report.specs.declared.fault.Fault.{Fault}
use Rattle.job_report.specs.declared.fault.Fault.TheVariants as fault
use Rattle.job_inputs.specs.Inputs.{path_of, input_rows, StopsAt}

-- How the reading of inputs ends that doesn't give all rows, by cases on the fault. Where the shelf doesn't tell, what is
-- said of bytes is open and the cause stands alone. After want of memory nothing is known. The rule is this project's own.

-- a shelf on which each name has these bytes
abbrev pub everywhere : List ℕ → Option Files
everywhere bytes = Some (λ name. Some bytes)

-- Bytes of a source's input that aren't of the form that is served.
pub record IsUnread (source : Node) (files : Option Files) (path : List ℕ) (number line field : ℕ) (why : InputKind) : Type 0 where
  pub numbered : number ≡ source.number
  pub at_line : line ≡ 0
  pub at_field : field ≡ 0
  pub not_built : why ≡ kind.NotBuilt
  pub refused : IfFileTold files path (λ bytes. input_rows source bytes ≡ None)

-- A source's file that gives no rows: the count of faults at it rose, or its bytes aren't of the form that is served.
abbrev pub EndsReadingInput : Node → Option Files → (path : List ℕ) → (before after : ℕ) → Fault → Type 0
EndsReadingInput source files path before after (fault.ReadFault number) = (number ≡ source.number) × Rose before after
EndsReadingInput source files path before after (fault.InputRefused number line field why) = IsUnread source files path number line field why
EndsReadingInput source files path before after fault.Memory = ⊤
EndsReadingInput source files path before after _ = ⊥

-- A source that is bound gives no rows, and is named.
pub record StopsReading (files : Option Files) (bindings : List Binding) (source : Node) (before after : List ℕ → ℕ) (name : List ℕ) (why : Fault) : Type 0 where
  pub named : name ≡ source.name
  pub ends : EndsReadingInput source files (path_of bindings source) (before (path_of bindings source)) (after (path_of bindings source)) why

-- A read failed: the sources before this one have rows, and the count of faults at its file rose.
pub record EndsAtRead (files : Option Files) (bindings : List Binding) (sources : List Node) (before after : List ℕ → ℕ) (name : List ℕ) (number : ℕ) : Type 0 where
  pub source : Node
  pub stops : StopsAt files bindings sources source
  pub named : name ≡ source.name
  pub numbered : number ≡ source.number
  pub rose : Rose (before (path_of bindings source)) (after (path_of bindings source))

-- An input is refused: the sources before this one have rows, and its bytes aren't of the form that is served.
pub record EndsAtInput (files : Option Files) (bindings : List Binding) (sources : List Node) (name : List ℕ) (number line field : ℕ) (why : InputKind) : Type 0 where
  pub source : Node
  pub stops : StopsAt files bindings sources source
  pub named : name ≡ source.name
  pub unread : IsUnread source files (path_of bindings source) number line field why

-- The inputs of sources that aren't all read: the first source that gives no rows, by its number and its name.
abbrev pub EndsReadingInputs : Option Files → List Binding → List Node → (before after : List ℕ → ℕ) → (name : List ℕ) → Fault → Type 0
EndsReadingInputs files bindings sources before after name (fault.ReadFault number) = EndsAtRead files bindings sources before after name number
EndsReadingInputs files bindings sources before after name (fault.InputRefused number line field why) = EndsAtInput files bindings sources name number line field why
EndsReadingInputs files bindings sources before after name fault.Memory = ⊤
EndsReadingInputs files bindings sources before after name _ = ⊥
