-- Row after row of an input is stored.
use Rattle.std.proofs.Common.{◌≡◌, ℕ, ◌+◌, ◌≤◌, Bool, true, false, List, [], ◌∷◌, ◌++◌, Result, Ok, Err, Option, Some, None, refl, sym, ap, ◌∙◌, subst, arith, append-nil, append_assoc, length-append}
use Rattle.std.specs.Prelude.{IsErrOf}
use Rattle.flow_outside.specs.Blocks.{Blocks, BothTold}
use Rattle.flow_outside.specs.Causes.{Rose}
use Rattle.flow_outside.specs.Files.{Files}
use Rattle.flow_outside.specs.Readers.{OthersStand, Readers}
use Rattle.flow_outside.specs.Told.{IfTold}
use Rattle.flow_outside.specs.declared.failure.StreamFault.{StreamFault}
use Rattle.flow_outside.specs.declared.failure.StreamFault.TheVariants as stream_fault
use Rattle.flow_types.specs.Tuples.{Tuple}
use Rattle.flow_types.specs.Records.{tuple_of}
use Rattle.flow_types.specs.Types.{Fields}
use Rattle.flow_model.specs.declared.plan.Node.{Node}
use Rattle.flow_model.specs.Rules.{node_at}
use Rattle.delim_io.specs.Fields.{first_and_others}
use Rattle.delim_io.specs.LinesLeft.{AdvancesLines, LinesView, rows_ahead}
use Rattle.delim_io.specs.declared.input_kind.InputKind.{InputKind}
use Rattle.delim_io.specs.declared.input_kind.InputKind.TheVariants as kind
use Rattle.delim_io.specs.declared.line_reader.LineFault.{LineFault}
use Rattle.delim_io.specs.declared.line_reader.LineFault.TheVariants as line_fault
use Rattle.lot_store.proofs.StorageLaws.{preserves_join}
use Rattle.spool.specs.Spilling.{HasWriteCause}
use Rattle.worker_storage.specs.Storages.{view_of}
use Rattle.worker_core.specs.Workers.{HoldsTheSame, KeepsWorker, Stores, WorkerView, worker_rows}
use Rattle.superstep.specs.Both.{WhileThere}
use Rattle.superstep.specs.Loading.{HasLoadCause, IsNotBuilt, KeepsShelf, StoresAll, StoresRows, StoresSome, of_lines, onto}
use Rattle.superstep.specs.declared.faults.LoadFault.{LoadFault}
use Rattle.superstep.specs.declared.faults.LoadFault.TheVariants as fault

-- ---- what a worker keeps

pub keeps_join : {D : Type 0} (told : D → Option Blocks) (w v u : WorkerView D) (places : List ℕ) → KeepsWorker told w v places places → KeepsWorker told v u places places → KeepsWorker told w u places places
keeps_join told w v u places f g = record {
  me = g.me ∙ f.me;
  workers = g.workers ∙ f.workers;
  pipes = g.pipes ∙ f.pipes;
  storage = record {
    size = g.storage.size ∙ f.storage.size;
    preserves = preserves_join (view_of told w.storage) (view_of told v.storage) (view_of told u.storage) places places true f.storage.preserves g.storage.preserves;
  };
}

-- whether a disk tells doesn't change
pub tells_still : {D : Type 0} (told : D → Option Blocks) (w v : WorkerView D) (ts ws : List ℕ) (P : Type 0) → KeepsWorker told w v ts ws → IfTold (told w.storage.disk) (λ _. P) → IfTold (told v.storage.disk) (λ _. P)
tells_still told w v ts ws P keeps claim = go _ (told w.storage.disk) (told v.storage.disk) keeps.storage.preserves.told claim
  where
    go : (C : Blocks → Blocks → Type 0) (t u : Option Blocks) → BothTold t u C → IfTold t (λ _. P) → IfTold u (λ _. P)
    go C None None both c = tt
    go C None (Some n) both c = absurd both
    go C (Some m) None both c = absurd both
    go C (Some m) (Some n) both c = c

-- ---- rows that are stored

onto_more : (rows : List Tuple) (row : Tuple) (left : Option (List Tuple)) → onto rows (first_and_others (Some row) left) ≡ onto (rows ++ row ∷ []) left
onto_more rows row None = refl
onto_more rows row (Some others) = ap (λ rs. Some rs) (sym (append_assoc rows (row ∷ []) others))

onto_none : (left : Option (List Tuple)) → left ≡ onto [] left
onto_none None = refl
onto_none (Some rows) = refl

module _ {D : Type 0} (told : D → Option Blocks) (nodes : List Node) (number : ℕ) where
  -- none yet
  pub stores_none : (lines : LinesView) (w : WorkerView D) (left : Option (List ℕ)) → WhileThere (StoresSome told nodes number lines lines 0 w w) left left
  stores_none lines w None = tt
  stores_none lines w (Some left) = record {
    rows = [];
    ahead = onto_none (rows_ahead lines left);
    count = refl;
    stored = known (told w.storage.disk);
  }
    where
      known : (t : Option Blocks) → IfTold t (λ _. StoresRows told nodes number [] w w)
      known None = tt
      known (Some m) = record { stored = sym (append-nil (worker_rows told nodes w number)); others = λ n far. refl }

  -- the row that was given is one that the node may store
  module _ (lines before after : LinesView) (w v u : WorkerView D) (bytes : List ℕ) (shown : after.row_bytes ≡ bytes) (node : Node) (found : node_at nodes number ≡ Some node) (fields : before.fields ≡ node.schema) where
    -- one more
    pub stores_more : (count next : ℕ) → next ≡ count + 1 → (left mid now : Option (List ℕ)) → (ts : List ℕ) → KeepsWorker told w v ts ts → WhileThere (StoresSome told nodes number lines before count w v) left mid → IfTold mid (λ left. AdvancesLines true before after left now)
        → IfTold (told v.storage.disk) (λ _. Stores told nodes number bytes v u) → WhileThere (StoresSome told nodes number lines after next w u) left now
    stores_more count next is None mid now ts keeps some advances stored = tt
    stores_more count next is (Some l) None now ts keeps some advances stored = absurd some
    stores_more count next is (Some l) (Some m) now ts keeps some (left_now, (same, gives)) stored =
        subst (WhileThere (StoresSome told nodes number lines after next w u) (Some l)) (sym same) (record {
          rows = some.rows ++ gives.tuple ∷ [];
          ahead = some.ahead ∙ ap (onto some.rows) gives.rows ∙ onto_more some.rows gives.tuple (rows_ahead after left_now);
          count = is ∙ ap (λ n. n + 1) some.count ∙ sym (length-append some.rows (gives.tuple ∷ []));
          stored = go _ (told w.storage.disk) (told v.storage.disk) keeps.storage.preserves.told some.stored stored;
        })
      where
        read : tuple_of node.schema bytes ≡ gives.tuple
        read = ap (tuple_of node.schema) (sym shown) ∙ ap (λ (f : Fields). tuple_of f after.row_bytes) (sym fields) ∙ gives.read

        go : (C : Blocks → Blocks → Type 0) (t y : Option Blocks) → BothTold t y C → IfTold t (λ _. StoresRows told nodes number some.rows w v) → IfTold y (λ _. Stores told nodes number bytes v u)
            → IfTold t (λ _. StoresRows told nodes number (some.rows ++ gives.tuple ∷ []) w u)
        go C None y both a b = tt
        go C (Some p) None both a b = absurd both
        go C (Some p) (Some q) both a b = record {
          stored = b.stored node found ∙ ap (λ t. worker_rows told nodes v number ++ t ∷ []) read ∙ ap (λ rs. rs ++ gives.tuple ∷ []) a.stored ∙ append_assoc (worker_rows told nodes w number) some.rows (gives.tuple ∷ []);
          others = λ n far. b.others n far ∙ a.others n far;
        }

  -- all
  pub stores_all : (lines before after : LinesView) (count : ℕ) (w v : WorkerView D) (left mid now : Option (List ℕ)) → WhileThere (StoresSome told nodes number lines before count w v) left mid → IfTold mid (λ l. AdvancesLines false before after l now)
      → IfTold left (λ l. StoresAll told nodes number (rows_ahead lines l) count w v)
  stores_all lines before after count w v None mid now some none = tt
  stores_all lines before after count w v (Some l) None now some none = absurd some
  stores_all lines before after count w v (Some l) (Some m) now some none = record {
    rows = some.rows;
    all = some.ahead ∙ ap (onto some.rows) none ∙ ap (λ rs. Some rs) (append-nil some.rows);
    count = some.count;
    stored = some.stored;
  }

  -- an input that isn't of its form behind some rows isn't
  pub stores_bad : (lines before : LinesView) (count : ℕ) (w v : WorkerView D) (left mid : Option (List ℕ)) → WhileThere (StoresSome told nodes number lines before count w v) left mid → IfTold mid (λ l. rows_ahead before l ≡ None) → IfTold left (λ l. rows_ahead lines l ≡ None)
  stores_bad lines before count w v None mid some bad = tt
  stores_bad lines before count w v (Some l) None some bad = absurd some
  stores_bad lines before count w v (Some l) (Some m) some bad = some.ahead ∙ ap (onto some.rows) bad

  -- The lot came to rest.
  pub all_rested : (lines : Option (List ℕ)) (rows : List ℕ → Option (List Tuple)) (count : ℕ) (w v u : WorkerView D) → HoldsTheSame told nodes v u
      → IfTold lines (λ l. StoresAll told nodes number (rows l) count w v) → IfTold lines (λ l. StoresAll told nodes number (rows l) count w u)
  all_rested None rows count w v u same all = tt
  all_rested (Some l) rows count w v u same all = record { rows = all.rows; all = all.all; count = all.count; stored = known (told w.storage.disk) all.stored }
    where
      known : (t : Option Blocks) → IfTold t (λ _. StoresRows told nodes number all.rows w v) → IfTold t (λ _. StoresRows told nodes number all.rows w u)
      known None h = tt
      known (Some m) h = record { stored = same number ∙ h.stored; others = λ n far. same n ∙ h.others n far }

-- ---- causes

not_built : (line field : ℕ) (why : InputKind) → (line ≡ 0) × (field ≡ 0) × (why ≡ kind.NotBuilt) → IsNotBuilt line field why
not_built line field why h = record { line = h.0; field = h.1; why = h.2 }

pub lines_cause : (before now file mid file_now : ℕ) (refused : Type 0) (answer : Result Bool LineFault) (f : LineFault) → answer ≡ Err f → before ≤ now → file ≤ mid → (answer ≡ Err line_fault.Read → Rose mid file_now)
    → ((line field : ℕ) (why : InputKind) → IsErrOf answer (line_fault.Bad line field why) → ((line ≡ 0) × (field ≡ 0) × (why ≡ kind.NotBuilt)) × refused) → HasLoadCause {T = ℕ} before now file file_now refused (Err (of_lines f))
lines_cause before now file mid file_now refused answer line_fault.Memory is later grew read bad = record {
  later = later;
  spill = λ worker e. cc;
  read = λ e. cc;
  input = λ line field why e. cc;
}
lines_cause before now file mid file_now refused answer line_fault.Read is later grew read bad = record {
  later = later;
  spill = λ worker e. cc;
  read = λ e. omega (arith, read is, grew);
  input = λ line field why e. cc;
}
lines_cause before now file mid file_now refused answer (line_fault.Bad l f w) is later grew read bad = record {
  later = later;
  spill = λ worker e. cc;
  read = λ e. cc;
  input = λ line field why e.
      let same : ◌≡◌ {A = LoadFault} (fault.Input l f w) (fault.Input line field why) = cc in
      let one : l ≡ line = cc in
      let two : f ≡ field = cc in
      let three : w ≡ why = cc in
      subst (λ n. IsNotBuilt n field why × refused) one (subst (λ n. IsNotBuilt l n why × refused) two (subst (λ n. IsNotBuilt l f n × refused) three (not_built l f w (bad l f w is).0, (bad l f w is).1)));
}

pub disk_cause : {T : Type 0} (before mid now file file_now : ℕ) (refused : Type 0) {S : Type 0} (answer : Result S StreamFault) (f : StreamFault) → answer ≡ Err f → before ≤ mid → HasWriteCause mid now answer → HasLoadCause {T = T} before now file file_now refused (Err (fault.Spill 0))
disk_cause before mid now file file_now refused answer stream_fault.Spill is grew cause = record {
  later = omega (arith, grew, cause.later);
  spill = λ worker e.
      let same : ◌≡◌ {A = LoadFault} (fault.Spill 0) (fault.Spill worker) = cc in
      let one : 0 ≡ worker = cc in
      (sym one, omega (arith, grew, cause.spill is));
  read = λ e. cc;
  input = λ line field why e. cc;
}
disk_cause before mid now file file_now refused answer (stream_fault.Damaged block) is grew cause = absurd (cause.damaged block is)

-- No fault.
pub no_load_cause : {T : Type 0} (before now file file_now : ℕ) (refused : Type 0) (x : T) → before ≤ now → HasLoadCause before now file file_now refused (Ok x)
no_load_cause before now file file_now refused x later = record { later = later; spill = λ worker e. cc; read = λ e. cc; input = λ line field why e. cc }

-- A fault that was there before something later.
pub later_cause : {T : Type 0} (before mid now file file_now : ℕ) (refused : Type 0) (answer : Result T LoadFault) → mid ≤ now → HasLoadCause before mid file file_now refused answer → HasLoadCause before now file file_now refused answer
later_cause before mid now file file_now refused answer grew cause = record {
  later = omega (arith, cause.later, grew);
  spill = λ worker e. ((cause.spill worker e).0, omega (arith, (cause.spill worker e).1, grew));
  read = cause.read;
  input = cause.input;
}

-- ---- the shelf

pub keeps_shelf_none : (files : Option Files) (faults : List ℕ → ℕ) (readers : Readers) (id : ℕ) → KeepsShelf files files faults faults readers readers id
keeps_shelf_none files faults readers id = record { told = refl; later = λ k. omega arith; others = λ k far. refl }

pub keeps_shelf_then : (files mid now : Option Files) (a b c : List ℕ → ℕ) (r s t : Readers) (id : ℕ) → KeepsShelf files mid a b r s id → now ≡ mid → ((k : List ℕ) → b k ≤ c k) → OthersStand s t id → KeepsShelf files now a c r t id
keeps_shelf_then files mid now a b c r s t id f told later others = record { told = told ∙ f.told; later = λ k. omega (arith, f.later k, later k); others = λ k far. others k far ∙ f.others k far }
