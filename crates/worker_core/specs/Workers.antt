-- A worker as contracts see it, the rows that it holds of each node, and what its calls keep. The rules are this project's own.
use Rattle.std.specs.Prelude.{◌≡◌, ◌≢◌, ℕ, suc, ◌<◌, ◌≤◌, true, List, [], ◌∷◌, ◌++◌, length, map, slice_get, slice_index_or, slice_set, Option, Some, None, IsSome, Result, IsErrOf}
use Rattle.std.specs.List.{flat_map}
use Rattle.segment_core.specs.Segments.{PurseView, count_other_size}
use Rattle.flow_outside.specs.Blocks.{Blocks, BothTold, IsLive}
use Rattle.flow_outside.specs.Causes.{HasStreamCause, Rose}
use Rattle.flow_outside.specs.Told.{IfTold}
use Rattle.flow_outside.specs.declared.failure.StreamFault.{StreamFault}
use Rattle.flow_outside.specs.declared.failure.StreamFault.TheVariants as fault
use Rattle.flow_types.specs.Types.{Fields, widest}
use Rattle.flow_types.specs.Records.{IsRecord, tuple_of}
use Rattle.flow_types.specs.Limits.{record_limit}
use Rattle.flow_model.specs.declared.op.Op.{Op}
use Rattle.flow_model.specs.declared.op.Op.TheVariants as op
use Rattle.flow_model.specs.declared.plan.Node.{Node}
use Rattle.flow_model.specs.declared.plan.Plan.{Plan}
use Rattle.flow_model.specs.Env.{Tuples}
use Rattle.flow_model.specs.Rows.{map_rows, filter_rows, flat_map_rows}
use Rattle.flow_model.specs.Rules.{IsPlan, node_at, references}
use Rattle.flow_model.specs.Segments.{minimum, reach, work_minimum}
use Rattle.plan_need.specs.Allotments.{allotment}
use Rattle.plan_need.specs.declared.budget.Allot.{Allot}
use Rattle.lot_store.specs.LotCalls.{IsSupplied}
use Rattle.lot_store.specs.Lots.{LotView, empty, held}
use Rattle.lot_store.specs.Rows.{rows_of}
use Rattle.lot_store.specs.Storage.{HasBudget, IsReadyAt, Stand, held_sum, lot_at, owners}
use Rattle.row_pipe.specs.declared.row_pipe.RowPipe.{RowPipe}
use Rattle.row_pipe.specs.Works.{GivesNarrow, piped, taken_of, work_of}
use Rattle.row_pipe.specs.declared.work.Work.{Work}
use Rattle.worker_storage.specs.Storages.{FreesAll, HoldsSome, KeepsStorage, Storage, view_of, with_lot}

-- A worker is seen as its number, how many there are, its storage, in which the lot at a node's number has the rows that it holds
-- of that node, and by the nodes' numbers what it does with rows one by one. The place 0 is no node's.
pub record WorkerView (D : Type 0) : Type 0 where
  pub me : ℕ
  pub workers : ℕ
  pub storage : Storage D
  pub pipes : List (Option RowPipe)

-- the rows of a lot, by what the disk tells: its records, read as tuples of a schema
abbrev pub tuples_in : Fields → Option Blocks → LotView → Tuples
tuples_in fields told lot = map (tuple_of fields) (rows_of told lot)

-- the rows of a node that is there; none of another
abbrev pub rows_under : {D : Type 0} → (D → Option Blocks) → Storage D → Option Node → Tuples
rows_under told s None = []
rows_under told s (Some node) = tuples_in node.schema (told s.disk) (lot_at s.lots node.number (empty 0 0))

-- the rows that a worker holds of a node, by its number
abbrev pub worker_rows : {D : Type 0} → (D → Option Blocks) → List Node → WorkerView D → ℕ → Tuples
worker_rows told nodes w n = rows_under told w.storage (node_at nodes n)

-- The rows that an op makes which goes row by row, of what is held of each number. The rows of other ops are made by other calls.
abbrev pub made_of : (ℕ → Tuples) → Op → Tuples
made_of rows (op.Map input columns) = map_rows columns (rows input)
made_of rows (op.Filter input test) = filter_rows test (rows input)
made_of rows (op.FlatMap input branches) = flat_map_rows branches (rows input)
made_of rows (op.Union names) = flat_map rows names
made_of rows _ = []

-- A pipe does with each row what a node's op does, takes rows of the schema that the node takes, and gives none that is wider than
-- the node's schema.
pub record IsPipeOf (node : Node) (pipe : RowPipe) : Type 0 where
  pub takes : pipe.takes ≡ taken_of node
  pub work : Some pipe.work ≡ work_of node.op
  pub narrow : GivesNarrow pipe.takes pipe.work (widest node.schema)

-- It is there where the node goes row by row.
abbrev pub IsPipeFor : Node → Option RowPipe → Type 0
IsPipeFor node found = IsSome (work_of node.op) → (pipe : RowPipe) × (found ≡ Some pipe) × IsPipeOf node pipe

-- By its number the pipe of a node is there.
pub record HasPipe (pipes : List (Option RowPipe)) (node : Node) : Type 0 where
  pub pipe : RowPipe
  pub there : slice_get pipes node.number ≡ Some (Some pipe)
  pub does : IsPipeOf node pipe

-- So it is of each node that goes row by row.
abbrev pub HasPipes : List Node → List (Option RowPipe) → Type 0
HasPipes nodes pipes = (node : Node) → node_at nodes node.number ≡ Some node → IsSome (work_of node.op) → HasPipe pipes node

-- It is a worker of a plan, whatever its disk tells and whatever was answered: it has a lot for each node and one more, its
-- segments have the plan's size, each record of a node touches as few pages as each lot takes, each lot rests, the result's keeps no
-- pages in segments, where all rest the purse has what an operator needs, and each node that goes row by row has its pipe.
pub record IsWorkerOf {D : Type 0} (told : D → Option Blocks) (plan : Plan) (w : WorkerView D) : Type 0 where
  pub count : length w.storage.lots ≡ suc (length plan.nodes)
  pub size : w.storage.size ≡ plan.segment
  pub reach : (i : ℕ) (d : LotView) → i < length w.storage.lots → (lot_at w.storage.lots i d).feed.reach ≡ reach plan
  pub rests : (i : ℕ) (d : LotView) → i < length w.storage.lots → length (held (lot_at w.storage.lots i d)) ≤ (lot_at w.storage.lots i d).stored.room
  pub bare : (d : LotView) → (lot_at w.storage.lots plan.result d).stored.room ≡ 0
  pub budget : HasBudget (work_minimum plan) (view_of told w.storage)
  pub pipes : HasPipes plan.nodes w.pipes

-- The lot of each node holds the rows of some tuples of the node's schema.
abbrev pub HoldsNodes : List Node → List LotView → Blocks → Type 0
HoldsNodes nodes lots blocks =
    (node : Node) (d : LotView) → node_at nodes node.number ≡ Some node → HoldsSome node.schema (lot_at lots node.number d) blocks

-- It is a worker of the plan, and where its disk tells, its lots hold rows of their nodes' schemas.
pub record IsSound {D : Type 0} (told : D → Option Blocks) (plan : Plan) (w : WorkerView D) : Type 0 where
  pub worker : IsWorkerOf told plan w
  pub holds : IfTold (told w.storage.disk) (HoldsNodes plan.nodes w.storage.lots)

-- The number is that of a node of the outer list which goes row by row.
pub record GoesByRow (nodes : List Node) (number : ℕ) : Type 0 where
  pub node : Node
  pub found : node_at nodes number ≡ Some node
  pub outer : node.home ≡ 0
  pub some : IsSome (work_of node.op)

-- What a call of a worker keeps that reads the lots at some places and writes those at others.
pub record KeepsWorker {D : Type 0} (told : D → Option Blocks) (before after : WorkerView D) (touched written : List ℕ) : Type 0 where
  pub me : after.me ≡ before.me
  pub workers : after.workers ≡ before.workers
  pub pipes : after.pipes ≡ before.pipes
  pub storage : KeepsStorage told before.storage after.storage touched written true

-- The rows that are held of one number went through what a node does with rows: what it made of them stands behind the rows that
-- were held of the node, and what is held of each other number is the same.
pub record PassesOn {D : Type 0} (told : D → Option Blocks) (nodes : List Node) (from to : ℕ) (w : Work) (before after : Storage D) : Type 0 where
  pub made : rows_under told after (node_at nodes to) ≡ rows_under told before (node_at nodes to) ++ piped w (rows_under told before (node_at nodes from))
  pub others : (n : ℕ) → n ≢ to → rows_under told after (node_at nodes n) ≡ rows_under told before (node_at nodes n)

-- The same of the rows of some numbers, one number after the other.
pub record StagesAll {D : Type 0} (told : D → Option Blocks) (nodes : List Node) (inputs : List ℕ) (to : ℕ) (w : Work) (before after : Storage D) : Type 0 where
  pub made : rows_under told after (node_at nodes to) ≡ rows_under told before (node_at nodes to) ++ flat_map (λ n. piped w (rows_under told before (node_at nodes n))) inputs
  pub others : (n : ℕ) → n ≢ to → rows_under told after (node_at nodes n) ≡ rows_under told before (node_at nodes n)

-- A node that goes row by row refers to this number.
pub record TakesFrom (nodes : List Node) (number from : ℕ) : Type 0 where
  pub node : Node
  pub found : node_at nodes number ≡ Some node
  pub outer : node.home ≡ 0
  pub some : IsSome (work_of node.op)
  pub index : ℕ
  pub low : index < length (references node.op)
  pub is : slice_index_or (references node.op) index 0 ≡ from

-- Why a call that reads lots and writes one ended early: `Spill` only where the disk's count rose, `Damaged` only over a disk that
-- doesn't tell, and then with the block that was read last of one of the lots.
pub record HasStageCause {D T : Type 0} (before now : ℕ) (told : Option Blocks) (after : Storage D) (answer : Result T StreamFault) : Type 0 where
  pub cause : HasStreamCause before now told answer
  pub damaged : (block : ℕ) → IsErrOf answer (fault.Damaged block) → (from : ℕ) × (block ≡ (lot_at after.lots from (empty 0 0)).read_last)

-- A node's rows were made: they stand behind those that were held of it, and what is held of each other number is the same.
pub record Stages {D : Type 0} (told : D → Option Blocks) (nodes : List Node) (number : ℕ) (o : Op) (before after : WorkerView D) : Type 0 where
  pub made : worker_rows told nodes after number ≡ worker_rows told nodes before number ++ made_of (worker_rows told nodes before) o
  pub others : (n : ℕ) → n ≢ number → worker_rows told nodes after n ≡ worker_rows told nodes before n

-- The numbers are those of a plan's allotment, of a budget that is enough for it.
pub record IsAllotmentOf (plan : Plan) (allot : Allot) : Type 0 where
  pub workers : ℕ
  pub budget : ℕ
  pub some : 1 ≤ workers
  pub enough : minimum plan workers ≤ budget
  pub is : allot ≡ allotment plan workers budget

-- A purse holds a worker's share, of segments of the plan's size.
pub record IsShareOf (plan : Plan) (allot : Allot) (purse : PurseView) : Type 0 where
  pub count : length purse.pages ≡ allot.share
  pub sized : count_other_size plan.segment purse.pages ≡ 0

-- A worker was opened: the purse and the disk are those that it was given, no lot holds a segment, and it holds no rows.
pub record IsNew {D : Type 0} (told : D → Option Blocks) (plan : Plan) (allot : Allot) (number : ℕ) (given_purse : PurseView) (given_disk : D) (w : WorkerView D) : Type 0 where
  pub me : w.me ≡ number
  pub workers : w.workers ≡ allot.workers
  pub purse : w.storage.purse ≡ given_purse
  pub disk : w.storage.disk ≡ given_disk
  pub sound : IsSound told plan w
  pub held : (h : ℕ → ℕ → ℕ) → held_sum h w.storage.lots ≡ 0
  pub rows : (n : ℕ) → worker_rows told plan.nodes w n ≡ []

-- A block that was live and was none of these lots' is as it was.
abbrev pub SparesOthers : (lots : List LotView) → (old new : Blocks) → Type 0
SparesOthers lots old new = (block : ℕ) → IsLive old block → owners old block lots ≡ 0 → new block ≡ old block

-- What a worker's end leaves of its disk: the count of faults didn't fall, blocks of others are as they were, and where the count
-- didn't rise, no block that was a lot's is live.
pub record LeavesDisk (before now : ℕ) (told told_now : Option Blocks) (lots : List LotView) : Type 0 where
  pub later : before ≤ now
  pub others : BothTold told told_now (SparesOthers lots)
  pub freed : (Rose before now → ⊥) → BothTold told told_now (FreesAll lots)

-- A lot from outside may stand in the place of a node's: it stands together with the worker's, keeps no pages and holds no segment,
-- takes records over as many pages as theirs, and where the disk tells, it holds rows of the node's schema.
pub record MayTakeItsPlace {D : Type 0} (told : D → Option Blocks) (plan : Plan) (number : ℕ) (w : WorkerView D) (lot : LotView) : Type 0 where
  pub stands : IsReadyAt w.storage.size (with_lot lot (view_of told w.storage))
  pub room : lot.stored.room ≡ 0
  pub none : held lot ≡ []
  pub reach : lot.feed.reach ≡ reach plan
  pub node : Node
  pub found : node_at plan.nodes number ≡ Some node
  pub holds : IfTold (told w.storage.disk) (HoldsSome node.schema lot)

-- A lot took the place of a node's: its rows are held of the node, what is held of each other number is the same, and so are all other
-- lots, the purse, the disk and what else a worker is.
pub record TakesItsPlace {D : Type 0} (told : D → Option Blocks) (nodes : List Node) (number : ℕ) (lot : LotView) (before after : WorkerView D) : Type 0 where
  pub rows : (node : Node) → node_at nodes number ≡ Some node → worker_rows told nodes after number ≡ tuples_in node.schema (told before.storage.disk) lot
  pub others : (n : ℕ) → n ≢ number → worker_rows told nodes after n ≡ worker_rows told nodes before n
  pub rest : after ≡ record before { storage = record before.storage { lots = slice_set before.storage.lots number lot } }

-- A worker's lot of one number is being filled: it is a worker of the plan, but for that lot, which may hold an open page.
pub record IsBeingFilled {D : Type 0} (told : D → Option Blocks) (plan : Plan) (number : ℕ) (w : WorkerView D) : Type 0 where
  pub count : length w.storage.lots ≡ suc (length plan.nodes)
  pub size : w.storage.size ≡ plan.segment
  pub reach : (i : ℕ) (d : LotView) → i < length w.storage.lots → (lot_at w.storage.lots i d).feed.reach ≡ reach plan
  pub rests : (i : ℕ) (d : LotView) → i < length w.storage.lots → i ≢ number → length (held (lot_at w.storage.lots i d)) ≤ (lot_at w.storage.lots i d).stored.room
  pub bare : (d : LotView) → (lot_at w.storage.lots plan.result d).stored.room ≡ 0
  pub budget : HasBudget (work_minimum plan) (view_of told w.storage)
  pub pipes : HasPipes plan.nodes w.pipes

-- It may be filled on: there is a segment to write into, and where the disk tells, the worker's lots hold rows of their nodes' schemas.
pub record IsFilling {D : Type 0} (told : D → Option Blocks) (plan : Plan) (number : ℕ) (w : WorkerView D) : Type 0 where
  pub filled : IsBeingFilled told plan number w
  pub supply : (d : LotView) → IsSupplied w.storage.purse (lot_at w.storage.lots number d)
  pub holds : IfTold (told w.storage.disk) (HoldsNodes plan.nodes w.storage.lots)

-- Bytes are the record of a row of a node's schema.
pub record IsRowOf (plan : Plan) (number : ℕ) (bytes : List ℕ) : Type 0 where
  pub node : Node
  pub found : node_at plan.nodes number ≡ Some node
  pub is : IsRecord node.schema bytes
  pub short : length bytes ≤ record_limit

-- A row was stored: it stands behind those that were held of the number, and what is held of each other number is the same.
pub record Stores {D : Type 0} (told : D → Option Blocks) (nodes : List Node) (number : ℕ) (bytes : List ℕ) (before after : WorkerView D) : Type 0 where
  pub stored : (node : Node) → node_at nodes number ≡ Some node → worker_rows told nodes after number ≡ worker_rows told nodes before number ++ tuple_of node.schema bytes ∷ []
  pub others : (n : ℕ) → n ≢ number → worker_rows told nodes after n ≡ worker_rows told nodes before n

-- What is held of each number is the same.
abbrev pub HoldsTheSame : {D : Type 0} → (D → Option Blocks) → List Node → (before after : WorkerView D) → Type 0
HoldsTheSame told nodes before after = (n : ℕ) → worker_rows told nodes after n ≡ worker_rows told nodes before n

-- A lot beside a worker's stays when the worker has ended: on its disk it stands alone, and where it held rows of a schema, it holds the
-- same.
pub record StaysBeside {D : Type 0} (told : D → Option Blocks) (before : Storage D) (disk_now : D) (lot : LotView) : Type 0 where
  pub stands : IfTold (told disk_now) (Stand before.size [] (lot ∷ []))
  pub same : (fields : Fields) → IfTold (told before.disk) (HoldsSome fields lot) → IfTold (told disk_now) (HoldsSome fields lot) × (tuples_in fields (told disk_now) lot ≡ tuples_in fields (told before.disk) lot)

-- So it is of each lot that stands together with the worker's and holds no segment.
abbrev pub SparesBeside : {D : Type 0} → (D → Option Blocks) → (before : Storage D) → (disk_now : D) → Type 0
SparesBeside told before disk_now =
    (lot : LotView) → held lot ≡ [] → IsReadyAt before.size (with_lot lot (view_of told before)) → StaysBeside told before disk_now lot
