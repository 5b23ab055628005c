-- Node after node.
use Rattle.std.proofs.Common.{◌≡◌, ◌≢◌, ◌⊎◌, inl, inr, ℕ, zero, suc, ◌+◌, ◌<◌, ◌≤◌, Bool, true, false, cond, ◌==◌, List, [], ◌∷◌, ◌++◌, length, take, map, filter, fold, Result, Ok, Err, OnOk, Option, Some, None, refl, sym, ap, ◌∙◌, subst, arith, append-nil}
use Rattle.std.specs.Prelude.{All, IsSome, slice_index_or}
use Rattle.std.specs.List.{AllByRecursion, flat_map}
use Rattle.std.proofs.lemmas.Bool.{cases_eq}
use Rattle.std.proofs.lemmas.Bool.Decides.{Decides-eqb}
use Rattle.std.proofs.lemmas.List.{take_all, take_more}
use Rattle.std.proofs.lemmas.List.Elements.{All-head, All-tail}
use Rattle.flow_outside.specs.Blocks.{Blocks}
use Rattle.flow_model.specs.declared.made.Made.{Made}
use Rattle.flow_model.specs.declared.op.Op.{Op}
use Rattle.flow_model.specs.declared.op.Op.TheVariants as op
use Rattle.flow_model.specs.declared.plan.Node.{Node}
use Rattle.flow_model.specs.declared.plan.Plan.{Plan}
use Rattle.flow_model.specs.Env.{Tuples}
use Rattle.flow_model.specs.Algebra.{Env, and_rows, eval, given, is_source, node_rows, nodes_of, outer_step, rows_at, source_numbers}
use Rattle.flow_model.specs.Rules.{IsPlan, is_node, is_numbered, node_at, passes, references}
use Rattle.model_laws.specs.LawsOfPlanFits.{StatesValues, node_states_values}
use Rattle.model_laws.proofs.AllLemmas.{All_from_list_all}
use Rattle.model_laws.proofs.NodeFacts.{NodeFacts, eqb-apart, eqb-refl, node_facts, none_below}
use Rattle.flow_types.proofs.ValueLemmas.{both_true}
use Rattle.lot_store.specs.Storage.{IsNoneOf}
use Rattle.lot_store.proofs.StorageLaws.{preserves_join, preserves_more}
use Rattle.row_pipe.specs.Works.{work_of}
use Rattle.worker_storage.specs.Storages.{all_places, view_of}
use Rattle.worker_storage.proofs.Lifting.{past_places}
use Rattle.worker_core.specs.Workers.{KeepsWorker, Stages, WorkerView, made_of, rows_under, worker_rows}
use Rattle.worker_core.proofs.NodeRows.{some_work}
use Rattle.worker_core.proofs.PlanFacts.{found_low, link}
use Rattle.superstep.specs.Outer.{HoldsInputs, HoldsUpTo, IsServed, IsServedNode, KeepsAll, MakesNode, evaluated}

-- ---- what a node makes

-- of a source nothing is made of other rows
source_makes : (rows : ℕ → Tuples) (o : Op) → is_source o ≡ true → made_of rows o ≡ []
source_makes rows (op.Source fields delimiter) e = refl
source_makes rows (op.Map input columns) e = cc
source_makes rows (op.Filter input test) e = cc
source_makes rows (op.FlatMap input branches) e = cc
source_makes rows (op.Union names) e = cc
source_makes rows (op.Distinct input) e = cc
source_makes rows (op.Group input key aggs combine) e = cc
source_makes rows (op.Top input key order count) e = cc
source_makes rows (op.Join left right left_key right_key columns kind left_default right_default) e = cc
source_makes rows (op.Cogroup left right left_key right_key left_aggs right_aggs) e = cc
source_makes rows (op.Bulk init bind most next until) e = cc
source_makes rows (op.Delta solution workset bind key order merge most delta next) e = cc
source_makes rows (op.Probe input key columns) e = cc

flat_map-same : (f g : ℕ → Tuples) (ns : List ℕ) → ((k : ℕ) → k < length ns → f (slice_index_or ns k 0) ≡ g (slice_index_or ns k 0)) → flat_map f ns ≡ flat_map g ns
flat_map-same f g [] h = refl
flat_map-same f g (n ∷ ns) h = ap (λ xs. xs ++ flat_map f ns) (h 0 (omega arith)) ∙ ap (λ xs. g n ++ xs) (flat_map-same f g ns (λ k low. h (suc k) (omega (arith, low))))

-- What an op makes of the rows that are held is the algebra's, where what it refers to is. A source's are the inputs'.
made_rows : (inputs : Env) (nodes : List Node) (env : Env) (number : ℕ) (rows : ℕ → Tuples) (o : Op) → IsSome (work_of o)
    → ((k : ℕ) → k < length (references o) → rows (slice_index_or (references o) k 0) ≡ rows_at env (slice_index_or (references o) k 0)) → made_of rows o ≡ node_rows inputs nodes env number o
made_rows inputs nodes env number rows (op.Map input columns) some h = ap (λ rs. made_of (λ _. rs) (op.Map input columns)) (h 0 (omega arith))
made_rows inputs nodes env number rows (op.Filter input test) some h = ap (λ rs. made_of (λ _. rs) (op.Filter input test)) (h 0 (omega arith))
made_rows inputs nodes env number rows (op.FlatMap input branches) some h = ap (λ rs. made_of (λ _. rs) (op.FlatMap input branches)) (h 0 (omega arith))
made_rows inputs nodes env number rows (op.Union names) some h = flat_map-same rows (rows_at env) names h
made_rows inputs nodes env number rows (op.Source fields delimiter) some h = cc
made_rows inputs nodes env number rows (op.Distinct input) some h = cc
made_rows inputs nodes env number rows (op.Group input key aggs combine) some h = cc
made_rows inputs nodes env number rows (op.Top input key order count) some h = cc
made_rows inputs nodes env number rows (op.Join left right left_key right_key columns kind left_default right_default) some h = cc
made_rows inputs nodes env number rows (op.Cogroup left right left_key right_key left_aggs right_aggs) some h = cc
made_rows inputs nodes env number rows (op.Bulk init bind most next until) some h = cc
made_rows inputs nodes env number rows (op.Delta solution workset bind key order merge most delta next) some h = cc
made_rows inputs nodes env number rows (op.Probe input key columns) some h = cc

source_rows : (inputs : Env) (nodes : List Node) (env : Env) (number : ℕ) (o : Op) → is_source o ≡ true → node_rows inputs nodes env number o ≡ rows_at inputs number
source_rows inputs nodes env number (op.Source fields delimiter) e = refl
source_rows inputs nodes env number (op.Map input columns) e = cc
source_rows inputs nodes env number (op.Filter input test) e = cc
source_rows inputs nodes env number (op.FlatMap input branches) e = cc
source_rows inputs nodes env number (op.Union names) e = cc
source_rows inputs nodes env number (op.Distinct input) e = cc
source_rows inputs nodes env number (op.Group input key aggs combine) e = cc
source_rows inputs nodes env number (op.Top input key order count) e = cc
source_rows inputs nodes env number (op.Join left right left_key right_key columns kind left_default right_default) e = cc
source_rows inputs nodes env number (op.Cogroup left right left_key right_key left_aggs right_aggs) e = cc
source_rows inputs nodes env number (op.Bulk init bind most next until) e = cc
source_rows inputs nodes env number (op.Delta solution workset bind key order merge most delta next) e = cc
source_rows inputs nodes env number (op.Probe input key columns) e = cc

-- ---- places

none_of_list : (i count : ℕ) (ns : List ℕ) → count ≤ i → ((k : ℕ) → k < length ns → slice_index_or ns k 0 < count) → IsNoneOf i ns
none_of_list i count [] high low = tt
none_of_list i count (n ∷ ns) high low = ((λ is. absurd (omega (arith, is, high, low 0 (omega arith)))), none_of_list i count ns high (λ k less. low (suc k) (omega (arith, less))))

pub none_of_all : (i count : ℕ) (ns : List ℕ) → IsNoneOf i (all_places count) → ((k : ℕ) → k < length ns → slice_index_or ns k 0 < count) → IsNoneOf i ns
none_of_all i count ns none low = none_of_list i count ns (omega (arith, past_places i 0 count none (omega arith))) low

pub keeps_all : {D : Type 0} (told : D → Option Blocks) (plan : Plan) (node : Node) (w u : WorkerView D) → IsPlan plan → StatesValues plan → node_at plan.nodes node.number ≡ Some node → node.home ≡ 0 → IsSome (work_of node.op)
    → KeepsWorker told w u (node.number ∷ references node.op) (node.number ∷ []) → KeepsAll told plan w u
keeps_all told plan node w u rules values found outer some f = record {
  me = f.me;
  workers = f.workers;
  pipes = f.pipes;
  storage = record {
    size = f.storage.size;
    preserves = preserves_more (view_of told w.storage) (view_of told u.storage) (node.number ∷ references node.op) (node.number ∷ []) (all_places count) (all_places count) true true
        (λ i none. none_of_all i count (node.number ∷ references node.op) none all_low) (λ i none. none_of_all i count (node.number ∷ []) none own_low) (λ is. is) f.storage.preserves;
  };
}
  where
    count : ℕ
    count = suc (length plan.nodes)

    low : node.number < suc (length plan.nodes)
    low = omega (arith, found_low 1 plan.nodes node.number node rules.numbers found)

    own_low : (k : ℕ) → k < length (node.number ∷ []) → slice_index_or (node.number ∷ []) k 0 < suc (length plan.nodes)
    own_low zero less = low
    own_low (suc k) less = absurd (omega (arith, less))

    all_low : (k : ℕ) → k < length (node.number ∷ references node.op) → slice_index_or (node.number ∷ references node.op) k 0 < suc (length plan.nodes)
    all_low zero less = low
    all_low (suc k) less =
        let does = some_work node.op some in
        omega (arith, low, (link plan node does.0 (slice_index_or (references node.op) k 0) k rules values found outer does.1 (omega (arith, less)) refl).before)

pub keeps_both : {D : Type 0} (told : D → Option Blocks) (plan : Plan) (w v u : WorkerView D) → KeepsAll told plan w v → KeepsAll told plan v u → KeepsAll told plan w u
keeps_both told plan w v u f g = record {
  me = g.me ∙ f.me;
  workers = g.workers ∙ f.workers;
  pipes = g.pipes ∙ f.pipes;
  storage = record {
    size = g.storage.size ∙ f.storage.size;
    preserves = preserves_join (view_of told w.storage) (view_of told v.storage) (view_of told u.storage) (all_places (suc (length plan.nodes))) (all_places (suc (length plan.nodes))) true f.storage.preserves g.storage.preserves;
  };
}

-- ---- what is evaluated

at_new : (env : Env) (k : ℕ) (rows : Tuples) → AllByRecursion (λ (e : Made). e.number < k) env → rows_at (and_rows env k rows) k ≡ rows
at_new [] k rows h = ap (λ b. cond b rows []) (eqb-refl k)
at_new (e ∷ env) k rows h =
    let low : e.number < k = h.0 in
    ap (λ b. cond b e.rows (rows_at (and_rows env k rows) k)) (eqb-apart e.number k (λ is. omega (arith, is, low))) ∙ at_new env k rows h.1

at_old : (env : Env) (k : ℕ) (rows : Tuples) (n : ℕ) → k ≢ n → rows_at (and_rows env k rows) n ≡ rows_at env n
at_old [] k rows n far = ap (λ b. cond b rows []) (eqb-apart k n far)
at_old (e ∷ env) k rows n far = ap (λ rs. cond (e.number == n) e.rows rs) (at_old env k rows n far)

below_more : (env : Env) (k : ℕ) (rows : Tuples) → AllByRecursion (λ (e : Made). e.number < k) env → AllByRecursion (λ (e : Made). e.number < suc k) (and_rows env k rows)
below_more [] k rows h = (omega arith, tt)
below_more (e ∷ env) k rows h = let low : e.number < k = h.0 in (omega (arith, low), below_more env k rows h.1)

fold_last : {A B : Type 0} (f : A → B → A) (a : A) (xs : List B) (x : B) → fold f a (xs ++ x ∷ []) ≡ f (fold f a xs) x
fold_last f a [] x = refl
fold_last f a (y ∷ xs) x = fold_last f (f a y) xs x

number_at : (first : ℕ) (nodes : List Node) (i : ℕ) (d : Node) → is_numbered first nodes ≡ true → i < length nodes → (slice_index_or nodes i d).number ≡ first + i
number_at first [] i d h low = absurd (omega (arith, low))
number_at first (x ∷ xs) zero d h low =
    let here : x.number ≡ first = (Decides-eqb x.number first).0 (both_true (x.number == first) (is_numbered (suc first) xs) h).0 in omega (arith, here)
number_at first (x ∷ xs) (suc i) d h low =
    omega (arith, number_at (suc first) xs i d (both_true (x.number == first) (is_numbered (suc first) xs) h).1 (omega (arith, low)))

-- ---- inputs

none_given : (list : List Node) (lists : List Tuples) (n : ℕ) → All (λ (y : Node). is_source y.op ≡ true → y.number ≢ n) list → rows_at (given (source_numbers list) lists) n ≡ []
none_given [] lists n h = refl
none_given (y ∷ ys) lists n h =
    go (is_source y.op) lists (All-head (λ (x : Node). is_source x.op ≡ true → x.number ≢ n) y ys h) (λ ls. none_given ys ls n (All-tail (λ (x : Node). is_source x.op ≡ true → x.number ≢ n) y ys h))
  where
    go : (b : Bool) (ls : List Tuples) → (b ≡ true → y.number ≢ n) → ((ms : List Tuples) → rows_at (given (source_numbers ys) ms) n ≡ []) → rows_at (given (map (λ (x : Node). x.number) (cond b (y ∷ filter (λ (x : Node). is_source x.op) ys) (filter (λ (x : Node). is_source x.op) ys))) ls) n ≡ []
    go true [] far later = refl
    go true (l ∷ ls) far later = ap (λ b. cond b l (rows_at (given (source_numbers ys) ls) n)) (eqb-apart y.number n (far refl)) ∙ later ls
    go false ls far later = later ls

source_no_work : (o : Op) → is_source o ≡ true → IsSome (work_of o) → ⊥
source_no_work (op.Source fields delimiter) e some = cc
source_no_work (op.Map input columns) e some = cc
source_no_work (op.Filter input test) e some = cc
source_no_work (op.FlatMap input branches) e some = cc
source_no_work (op.Union names) e some = cc
source_no_work (op.Distinct input) e some = cc
source_no_work (op.Group input key aggs combine) e some = cc
source_no_work (op.Top input key order count) e some = cc
source_no_work (op.Join left right left_key right_key columns kind left_default right_default) e some = cc
source_no_work (op.Cogroup left right left_key right_key left_aggs right_aggs) e some = cc
source_no_work (op.Bulk init bind most next until) e some = cc
source_no_work (op.Delta solution workset bind key order merge most delta next) e some = cc
source_no_work (op.Probe input key columns) e some = cc

-- ---- one node more

module _ {D : Type 0} (told : D → Option Blocks) (plan : Plan) (rules : IsPlan plan) (values : StatesValues plan) (inputs : List Tuples) (i : ℕ) (x : Node) (low : i < length plan.nodes) (is : (d : Node) → slice_index_or plan.nodes i d ≡ x) (served : IsServedNode x) where
  sources : Env
  sources = given (source_numbers plan.nodes) inputs

  pub number_is : x.number ≡ suc i
  number_is = let n : x.number ≡ 1 + i = sym (ap (λ (y : Node). y.number) (is x)) ∙ number_at 1 plan.nodes i x rules.numbers low in omega (arith, n)

  facts : All (NodeFacts plan.nodes) plan.nodes
  facts = node_facts plan.nodes rules.numbers rules.homes rules.nodes (All_from_list_all node_states_values plan.nodes values)

  pub found_here : node_at plan.nodes x.number ≡ Some x
  found_here = subst (λ (y : Node). node_at plan.nodes y.number ≡ Some y) (is x) ((facts i x low).found)

  no_input : IsSome (work_of x.op) → rows_at (given (source_numbers plan.nodes) inputs) x.number ≡ []
  no_input some =
      none_given plan.nodes inputs x.number (λ k d less source same.
      let y = slice_index_or plan.nodes k d in
      let there : node_at plan.nodes y.number ≡ Some y = (facts k d less).found in
      let both : Some y ≡ Some x = sym there ∙ ap (node_at plan.nodes) same ∙ found_here in
      let one : y ≡ x = cc in
      source_no_work x.op (subst (λ (z : Node). is_source z.op ≡ true) one source) some)

  more : evaluated plan inputs (i + 1) ≡ outer_step (given (source_numbers plan.nodes) inputs) plan.nodes (evaluated plan inputs i) x
  more =
      ap (fold (outer_step (given (source_numbers plan.nodes) inputs) plan.nodes) []) (take_more plan.nodes i x low ∙ ap (λ y. take i plan.nodes ++ y ∷ []) (is x))
      ∙ fold_last (outer_step (given (source_numbers plan.nodes) inputs) plan.nodes) [] (take i plan.nodes) x

  -- what was held before the node, and what it makes, are the algebra's
  module _ (w v : WorkerView D) (before : HoldsUpTo told plan inputs i w) (made : MakesNode told plan.nodes x w v) where
    own : worker_rows told plan.nodes v x.number ≡ node_rows (given (source_numbers plan.nodes) inputs) plan.nodes (evaluated plan inputs i) x.number x.op
    own = made.made ∙ elim served.op [
      | inl source ↦
          ap (λ rs. worker_rows told plan.nodes w x.number ++ rs) (source_makes (worker_rows told plan.nodes w) x.op source) ∙ append-nil (worker_rows told plan.nodes w x.number)
          ∙ before.ahead x.number (omega (arith, number_is)) ∙ sym (source_rows (given (source_numbers plan.nodes) inputs) plan.nodes (evaluated plan inputs i) x.number x.op source)
      | inr some ↦
          let does = some_work x.op some in
          ap (λ rs. rs ++ made_of (worker_rows told plan.nodes w) x.op) (before.ahead x.number (omega (arith, number_is)) ∙ no_input some)
          ∙ made_rows (given (source_numbers plan.nodes) inputs) plan.nodes (evaluated plan inputs i) x.number (worker_rows told plan.nodes w) x.op some
          (λ k less. before.made (slice_index_or (references x.op) k 0) (omega (arith, number_is, (link plan x does.0 (slice_index_or (references x.op) k 0) k rules values found_here served.outer does.1 less refl).before)))
    ]

    pub up_to_next : AllByRecursion (λ (e : Made). e.number < suc i) (evaluated plan inputs i) → HoldsUpTo told plan inputs (i + 1) v
    up_to_next below = record {
      made = λ n less. elim (cases_eq n x.number) [
        | inl at ↦
            subst (λ k. worker_rows told plan.nodes v k ≡ rows_at (evaluated plan inputs (i + 1)) k) (sym at)
            (own ∙ sym (ap (λ env. rows_at env x.number) more ∙ at_new (evaluated plan inputs i) x.number (node_rows (given (source_numbers plan.nodes) inputs) plan.nodes (evaluated plan inputs i) x.number x.op)
            (subst (λ k. AllByRecursion (λ (e : Made). e.number < k) (evaluated plan inputs i)) (sym number_is) below)))
        | inr far ↦
            made.others n far ∙ before.made n (omega (arith, less, far, number_is))
            ∙ sym (ap (λ env. rows_at env n) more ∙ at_old (evaluated plan inputs i) x.number (node_rows (given (source_numbers plan.nodes) inputs) plan.nodes (evaluated plan inputs i) x.number x.op) n (λ same. far (sym same)))
      ];
      ahead = λ n high. made.others n (λ at. omega (arith, at, high, number_is)) ∙ before.ahead n (omega (arith, high));
    }

  pub below_next : AllByRecursion (λ (e : Made). e.number < suc i) (evaluated plan inputs i) → AllByRecursion (λ (e : Made). e.number < suc (i + 1)) (evaluated plan inputs (i + 1))
  below_next below =
      subst (λ k. AllByRecursion (λ (e : Made). e.number < k) (evaluated plan inputs (i + 1))) (ap suc number_is ∙ next)
      (subst (AllByRecursion (λ (e : Made). e.number < suc x.number)) (sym more)
      (below_more (evaluated plan inputs i) x.number (node_rows (given (source_numbers plan.nodes) inputs) plan.nodes (evaluated plan inputs i) x.number x.op)
      (subst (λ k. AllByRecursion (λ (e : Made). e.number < k) (evaluated plan inputs i)) (sym number_is) below)))
    where
      next : suc (suc i) ≡ suc (i + 1)
      next = omega arith

-- ---- all nodes

pub all_outer : (nodes : List Node) → All IsServedNode nodes → nodes_of 0 nodes ≡ nodes
all_outer [] h = refl
all_outer (x ∷ xs) h =
    ap (λ b. cond b (x ∷ nodes_of 0 xs) (nodes_of 0 xs)) ((Decides-eqb x.home 0).1 (All-head IsServedNode x xs h).outer) ∙ ap (λ ns. x ∷ ns) (all_outer xs (All-tail IsServedNode x xs h))

pub result_found : (nodes : List Node) (n : ℕ) (test : Node → Bool) → is_node nodes n test ≡ true → (node : Node) × (node_at nodes n ≡ Some node)
result_found nodes n test h = go (node_at nodes n) refl h
  where
    go : (o : Option Node) → node_at nodes n ≡ o → passes test o ≡ true → (node : Node) × (node_at nodes n ≡ Some node)
    go None e f = cc
    go (Some node) e f = (node, e)

pub all_made : {D : Type 0} (told : D → Option Blocks) (plan : Plan) (inputs : List Tuples) (count : ℕ) (w : WorkerView D) → IsPlan plan → IsServed plan → count ≡ length plan.nodes → HoldsUpTo told plan inputs count w
    → worker_rows told plan.nodes w plan.result ≡ eval plan inputs
all_made told plan inputs count w rules served full holds =
    let there = result_found plan.nodes plan.result (λ (m : Node). m.home == 0) rules.result in
    holds.made plan.result (omega (arith, found_low 1 plan.nodes plan.result there.0 rules.numbers there.1, full))
    ∙ ap (λ ns. rows_at (fold (outer_step (given (source_numbers plan.nodes) inputs) plan.nodes) [] ns) plan.result) (take_all count plan.nodes (omega (arith, full)) ∙ sym (all_outer plan.nodes served))

pub none_made : {D : Type 0} (told : D → Option Blocks) (plan : Plan) (inputs : List Tuples) (w : WorkerView D) → IsPlan plan → HoldsInputs told plan inputs w → HoldsUpTo told plan inputs 0 w
none_made told plan inputs w rules holds = record { made = λ n low. absent n low; ahead = λ n high. holds n }
  where
    zero_none : worker_rows told plan.nodes w 0 ≡ []
    zero_none = ap (λ o. rows_under told w.storage o) (none_below 1 plan.nodes rules.numbers 0 (omega arith))

    absent : (n : ℕ) → n ≤ 0 → worker_rows told plan.nodes w n ≡ []
    absent zero low = zero_none
    absent (suc n) low = absurd (omega (arith, low))

-- ---- what the loop calls say

pub some_of : (o : Op) → ((fields : _) (delimiter : ℕ) → o ≡ op.Source fields delimiter → ⊥) → (is_source o ≡ true) ⊎ IsSome (work_of o) → IsSome (work_of o)
some_of o other (inr some) = some
some_of o other (inl source) = absurd (never o other source)
  where
    never : (p : Op) → ((fields : _) (delimiter : ℕ) → p ≡ op.Source fields delimiter → ⊥) → is_source p ≡ true → ⊥
    never (op.Source fields delimiter) no_source e = no_source fields delimiter refl
    never (op.Map input columns) no_source e = cc
    never (op.Filter input test) no_source e = cc
    never (op.FlatMap input branches) no_source e = cc
    never (op.Union names) no_source e = cc
    never (op.Distinct input) no_source e = cc
    never (op.Group input key aggs combine) no_source e = cc
    never (op.Top input key order count) no_source e = cc
    never (op.Join left right left_key right_key columns kind left_default right_default) no_source e = cc
    never (op.Cogroup left right left_key right_key left_aggs right_aggs) no_source e = cc
    never (op.Bulk init bind most next until) no_source e = cc
    never (op.Delta solution workset bind key order merge most delta next) no_source e = cc
    never (op.Probe input key columns) no_source e = cc

pub makes_node : {D : Type 0} {T E : Type 0} (told : D → Option Blocks) (answer : Result T E) (nodes : List Node) (node : Node) (w v : WorkerView D) → node_at nodes node.number ≡ Some node
    → OnOk answer ((o : Node) → node_at nodes node.number ≡ Some o → Stages told nodes node.number o.op w v) → OnOk answer (MakesNode told nodes node w v)
makes_node told (Err e) nodes node w v found h = tt
makes_node told (Ok x) nodes node w v found h = let s = h node found in record { made = s.made; others = s.others }
