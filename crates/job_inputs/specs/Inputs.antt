use Rattle.std.specs.Prelude.{◌≡◌, ℕ, List, [], ◌∷◌, ◌++◌, Option, Some, None, ⊤, All}
use Rattle.flow_outside.specs.Files.{Files, IfFileTold}
use Rattle.flow_types.specs.Tuples.{Tuple}
use Rattle.flow_types.specs.Records.{IsTupleOf}
use Rattle.flow_model.specs.declared.plan.Node.{Node}
use Rattle.flow_model.specs.Algebra.{delimiter_of}
use Rattle.delim_io.specs.Input.{rows_of}
use Rattle.job_words.specs.Words.{Binding}
use Rattle.job_inputs.specs.Sources.{binding_at}

-- The rows in the files that sources are bound to.

-- a binding's path; nothing's where there is none
abbrev pub path_in : Option Binding → List ℕ
path_in None = []
path_in (Some b) = b.path

-- the path of the file that a source is bound to
abbrev pub path_of : List Binding → Node → List ℕ
path_of bindings source = path_in (binding_at bindings source.name)

-- the rows of a source's input, where it is of the form that is served
abbrev pub input_rows : Node → List ℕ → Option (List Tuple)
input_rows source bytes = rows_of source.schema (delimiter_of source.op) bytes

-- The file at a path has these rows of a source: where the shelf tells, it is there and they are its bytes' rows, and
-- each of them is a tuple of the source's schema.
pub record HasRows (files : Option Files) (path : List ℕ) (source : Node) (rows : List Tuple) : Type 0 where
  pub told : IfFileTold files path (λ bytes. input_rows source bytes ≡ Some rows)
  pub tuples : All (IsTupleOf source.schema) rows

-- Sources' files have these rows, source by source.
abbrev pub HaveRows : Option Files → List Binding → List Node → List (List Tuple) → Type 0
HaveRows files bindings [] [] = ⊤
HaveRows files bindings [] (rows ∷ lists) = ⊥
HaveRows files bindings (source ∷ sources) [] = ⊥
HaveRows files bindings (source ∷ sources) (rows ∷ lists) = HasRows files (path_of bindings source) source rows × HaveRows files bindings sources lists

-- A source at which the reading of inputs stops: those before it have rows.
pub record StopsAt (files : Option Files) (bindings : List Binding) (sources : List Node) (source : Node) : Type 0 where
  pub front : List Node
  pub back : List Node
  pub parts : sources ≡ front ++ source ∷ back
  pub lists : List (List Tuple)
  pub read : HaveRows files bindings front lists
