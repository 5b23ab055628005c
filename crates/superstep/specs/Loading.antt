-- Rows of an input that are loaded into a worker. The rules are this project's own.
use Rattle.std.specs.Prelude.{◌≡◌, ◌≢◌, ℕ, ◌+◌, ◌≤◌, List, [], ◌++◌, length, true, Option, Some, None, Result, IsErrOf}
use Rattle.flow_outside.specs.Blocks.{Blocks}
use Rattle.flow_outside.specs.Causes.{Rose}
use Rattle.flow_outside.specs.Files.{Files}
use Rattle.flow_outside.specs.Readers.{OthersStand, Readers}
use Rattle.flow_outside.specs.Told.{IfTold}
use Rattle.flow_types.specs.Tuples.{Tuple}
use Rattle.flow_model.specs.declared.plan.Node.{Node}
use Rattle.flow_model.specs.declared.plan.Plan.{Plan}
use Rattle.flow_model.specs.Algebra.{delimiter_of, is_source}
use Rattle.flow_model.specs.Rules.{node_at}
use Rattle.delim_io.specs.Input.{rows_of}
use Rattle.delim_io.specs.LinesLeft.{LinesView, rows_ahead}
use Rattle.delim_io.specs.declared.input_kind.InputKind.{InputKind}
use Rattle.delim_io.specs.declared.line_reader.LineFault.{LineFault}
use Rattle.delim_io.specs.declared.line_reader.LineFault.TheVariants as line_fault
use Rattle.delim_io.specs.declared.input_kind.InputKind.TheVariants as kind
use Rattle.worker_core.specs.Workers.{WorkerView, worker_rows}
use Rattle.superstep.specs.declared.faults.LoadFault.{LoadFault}
use Rattle.superstep.specs.declared.faults.LoadFault.TheVariants as fault

-- The node of a number is a source.
pub record IsSource (plan : Plan) (number : ℕ) : Type 0 where
  pub node : Node
  pub found : node_at plan.nodes number ≡ Some node
  pub op : is_source node.op ≡ true

-- the rows of a source's input, where it is of the form that is served
abbrev pub rows_of_input : Node → (bytes : List ℕ) → Option (List Tuple)
rows_of_input source bytes = rows_of source.schema (delimiter_of source.op) bytes

-- a reader of a source's lines that stands at the first byte
abbrev pub first_lines : Node → LinesView
first_lines source = record { fields = source.schema; delimiter = delimiter_of source.op; given = 0; ahead = []; row_bytes = [] }

-- It reads lines of a source, and has given none.
pub record IsLinesOf (plan : Plan) (number : ℕ) (lines : LinesView) : Type 0 where
  pub node : Node
  pub found : node_at plan.nodes number ≡ Some node
  pub fields : lines.fields ≡ node.schema
  pub given : lines.given ≡ 0

-- some rows, and those behind them where these are there
abbrev pub onto : List Tuple → Option (List Tuple) → Option (List Tuple)
onto rows None = None
onto rows (Some others) = Some (rows ++ others)

-- Rows stand behind those that were held of a number, and what is held of each other number is the same.
pub record StoresRows {D : Type 0} (told : D → Option Blocks) (nodes : List Node) (number : ℕ) (rows : List Tuple) (before after : WorkerView D) : Type 0 where
  pub stored : worker_rows told nodes after number ≡ worker_rows told nodes before number ++ rows
  pub others : (n : ℕ) → n ≢ number → worker_rows told nodes after n ≡ worker_rows told nodes before n

-- So many rows were stored of those that lines have ahead of them: the first ones, and the others are ahead still.
pub record StoresSome {D : Type 0} (told : D → Option Blocks) (nodes : List Node) (number : ℕ) (lines lines_now : LinesView) (many : ℕ) (before after : WorkerView D) (left left_now : List ℕ) : Type 0 where
  pub rows : List Tuple
  pub ahead : rows_ahead lines left ≡ onto rows (rows_ahead lines_now left_now)
  pub count : many ≡ length rows
  pub stored : IfTold (told before.storage.disk) (λ _. StoresRows told nodes number rows before after)

-- All rows that are left of an input were stored.
pub record StoresAll {D : Type 0} (told : D → Option Blocks) (nodes : List Node) (number : ℕ) (left : Option (List Tuple)) (many : ℕ) (before after : WorkerView D) : Type 0 where
  pub rows : List Tuple
  pub all : left ≡ Some rows
  pub count : many ≡ length rows
  pub stored : IfTold (told before.storage.disk) (λ _. StoresRows told nodes number rows before after)

-- What reading one reader of a shelf leaves alone.
pub record KeepsShelf (files files_now : Option Files) (faults faults_now : List ℕ → ℕ) (readers readers_now : Readers) (id : ℕ) : Type 0 where
  pub told : files_now ≡ files
  pub later : (k : List ℕ) → faults k ≤ faults_now k
  pub others : OthersStand readers readers_now id

-- A reader was read to its end.
pub record HasEnded (readers_now : Readers) (living living_now id : ℕ) : Type 0 where
  pub ended : readers_now id ≡ None
  pub one_less : living_now + 1 ≡ living

-- The first fault of an input of the form that is served now has no place.
pub record IsNotBuilt (at_line at_field : ℕ) (what : InputKind) : Type 0 where
  pub line : at_line ≡ 0
  pub field : at_field ≡ 0
  pub why : what ≡ kind.NotBuilt

-- Why rows weren't loaded: `Spill` only where the count of the first worker's disk rose, `Read` only where that of the file rose, and
-- `Input` only where the input is refused.
pub record HasLoadCause {T : Type 0} (before now file file_now : ℕ) (refused : Type 0) (answer : Result T LoadFault) : Type 0 where
  pub later : before ≤ now
  pub spill : (worker : ℕ) → IsErrOf answer (fault.Spill worker) → (worker ≡ 0) × Rose before now
  pub read : IsErrOf answer fault.Read → Rose file file_now
  pub input : (line field : ℕ) (why : InputKind) → IsErrOf answer (fault.Input line field why) → IsNotBuilt line field why × refused

-- what a fault of the lines is as a fault of loading
abbrev pub of_lines : LineFault → LoadFault
of_lines line_fault.Memory = fault.Memory
of_lines line_fault.Read = fault.Read
of_lines (line_fault.Bad line field why) = fault.Input line field why
