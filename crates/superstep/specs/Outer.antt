-- The nodes of the outer list, made one after the other by one worker. The rules are this project's own.
use Rattle.std.specs.Prelude.{◌≡◌, ◌≢◌, ◌⊎◌, ◌++◌, ℕ, suc, ◌<◌, ◌≤◌, All, List, [], length, take, fold, true, IsSome, Option}
use Rattle.flow_outside.specs.Blocks.{Blocks}
use Rattle.flow_model.specs.declared.plan.Node.{Node}
use Rattle.flow_model.specs.declared.plan.Plan.{Plan}
use Rattle.flow_model.specs.Env.{Tuples}
use Rattle.flow_model.specs.Algebra.{Env, given, is_source, outer_step, rows_at, source_numbers}
use Rattle.row_pipe.specs.Works.{work_of}
use Rattle.worker_storage.specs.Storages.{all_places}
use Rattle.worker_core.specs.Workers.{KeepsWorker, WorkerView, made_of, worker_rows}

-- A node is served: it stands in the outer list, and is a source or goes row by row.
pub record IsServedNode (node : Node) : Type 0 where
  pub outer : node.home ≡ 0
  pub op : (is_source node.op ≡ true) ⊎ IsSome (work_of node.op)

-- So are all nodes of a plan.
abbrev pub IsServed : Plan → Type 0
IsServed plan = All IsServedNode plan.nodes

-- A worker holds the inputs of a plan under their sources' numbers, and no rows of another node.
abbrev pub HoldsInputs : {D : Type 0} → (D → Option Blocks) → Plan → List Tuples → WorkerView D → Type 0
HoldsInputs told plan inputs w = (n : ℕ) → worker_rows told plan.nodes w n ≡ rows_at (given (source_numbers plan.nodes) inputs) n

-- What making all nodes keeps of a worker.
abbrev pub KeepsAll : {D : Type 0} → (D → Option Blocks) → Plan → (before after : WorkerView D) → Type 0
KeepsAll told plan before after = KeepsWorker told before after (all_places (suc (length plan.nodes))) (all_places (suc (length plan.nodes)))

-- One node was made: a source's rows are those that were there, and of another node there are those that it makes of the rows that
-- are held, behind those that were there. What is held of each other number is the same.
pub record MakesNode {D : Type 0} (told : D → Option Blocks) (nodes : List Node) (node : Node) (before after : WorkerView D) : Type 0 where
  pub made : worker_rows told nodes after node.number ≡ worker_rows told nodes before node.number ++ made_of (worker_rows told nodes before) node.op
  pub others : (n : ℕ) → n ≢ node.number → worker_rows told nodes after n ≡ worker_rows told nodes before n

-- what the algebra evaluates of a plan's first nodes, all of the outer list
abbrev pub evaluated : Plan → List Tuples → ℕ → Env
evaluated plan inputs count = fold (outer_step (given (source_numbers plan.nodes) inputs) plan.nodes) [] (take count plan.nodes)

-- The first nodes were made: under their numbers the worker holds what the algebra gives, and under each later one what it held.
pub record HoldsUpTo {D : Type 0} (told : D → Option Blocks) (plan : Plan) (inputs : List Tuples) (count : ℕ) (w : WorkerView D) : Type 0 where
  pub made : (n : ℕ) → n ≤ count → worker_rows told plan.nodes w n ≡ rows_at (evaluated plan inputs count) n
  pub ahead : (n : ℕ) → count < n → worker_rows told plan.nodes w n ≡ rows_at (given (source_numbers plan.nodes) inputs) n
