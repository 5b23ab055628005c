use Rattle.std.specs.Prelude.{ℕ, Bool, not, ◌||◌, if◌then◌else◌, List, [], ◌∷◌, ◌++◌, filter, find, Option, Some, None, is_some}
use Rattle.std.specs.List.{list_any}
use Rattle.std.specs.Str.{bytes_eq}
use Rattle.flow_model.specs.declared.plan.Node.{Node}
use Rattle.flow_model.specs.declared.plan.Plan.{Plan}
use Rattle.flow_model.specs.Algebra.{is_source}
use Rattle.job_words.specs.Words.{Binding}

-- The sources of a plan, and the words that bind them to files. The rule is this project's own.

-- the sources, in plan order
abbrev pub sources_of : Plan → List Node
sources_of plan = filter (λ (node : Node). is_source node.op) plan.nodes

-- the first binding of a name
abbrev pub binding_at : List Binding → List ℕ → Option Binding
binding_at bindings name = find (λ (b : Binding). bytes_eq b.name name) bindings

-- the first source that no binding names
abbrev pub first_unbound : List Binding → List Node → Option Node
first_unbound bindings sources = find (λ (source : Node). not (is_some (binding_at bindings source.name))) sources

-- a name is that of one of these sources
abbrev pub names_source : List Node → List ℕ → Bool
names_source sources name = list_any (λ (source : Node). bytes_eq source.name name) sources

-- the first binding that names no source, or one that a binding before it names
abbrev pub first_stray : List Node → (before : List Binding) → List Binding → Option Binding
first_stray sources before [] = None
first_stray sources before (b ∷ bs) =
    if not (names_source sources b.name) || is_some (binding_at before b.name) then Some b else first_stray sources (before ++ b ∷ []) bs

-- the name of a source that isn't bound, else of a binding that is stray
abbrev pub name_of_either : Option Node → Option Binding → Option (List ℕ)
name_of_either (Some source) stray = Some source.name
name_of_either None (Some b) = Some b.name
name_of_either None None = None

-- The name that keeps the words from binding each source of a plan once and nothing else: that of the first source that
-- isn't bound, else that of the first stray binding; none where all is well.
abbrev pub unbound_name : List Binding → Plan → Option (List ℕ)
unbound_name bindings plan = name_of_either (first_unbound bindings (sources_of plan)) (first_stray (sources_of plan) [] bindings)
