-- What the rules of plans say of each node, and the schemas that numbers stand for.
use Rattle.std.proofs.Common.{◌≡◌, ◌≢◌, ℕ, ◌<◌, ◌≤◌, Bool, true, false, cond, ◌&&◌, ◌||◌, ◌==◌, List, [], ◌∷◌, ◌++◌, map, find, refl, sym, ap, ◌∙◌, subst, arith, suc, Option, Some, None}
use Rattle.std.specs.Prelude.{All, slice_index_or}
use Rattle.std.specs.List.{list_all}
use Rattle.std.proofs.lemmas.Bool.Decides.{Decides-eqb}
use Rattle.std.proofs.lemmas.List.Elements.{All-nil, All-cons, All-weaker}
use Rattle.flow_types.proofs.ValueLemmas.{both_true}
use Rattle.flow_model.specs.declared.op.Op.{Op}
use Rattle.flow_model.specs.declared.plan.Node.{Node}
use Rattle.flow_model.specs.Rules.{is_iteration, is_probe, is_numbered, open_after, are_at_home, node_at, is_placed, is_visible, is_visible_at_end, references, end_references, bind_schema, schema_at, schema_in, inputs_of, rows_type, is_fields, is_fitting, in_range, are_inputs, node_holds}
use Rattle.model_laws.specs.LawsOfFits.{states_values}
use Rattle.model_laws.proofs.SchemaLaws.{same_fields, same_inputs}

-- What holds of a node's op: its schema, those of the rows that it takes, and its numbers.
pub record OpFacts (nodes : List Node) (node : Node) (o : Op) : Type 0 where
  pub own : node.op ≡ o
  pub typed : rows_type nodes node o ≡ Some node.schema
  pub inputs : map (schema_in nodes node.home) (references o) ++ cond (is_probe o) (schema_in nodes 0 node.home ∷ []) [] ≡ node.inputs
  pub fitting : is_fitting nodes node o ≡ true
  pub range : in_range o ≡ true
  pub values : states_values o ≡ true

-- A node stands under its number, behind its home, and its op is by the rules.
pub record NodeFacts (nodes : List Node) (node : Node) : Type 0 where
  pub found : node_at nodes node.number ≡ Some node
  pub above : node.home < node.number
  pub of_op : OpFacts nodes node node.op

pub op_facts : (nodes : List Node) (node : Node) → node_holds nodes node ≡ true → states_values node.op ≡ true → OpFacts nodes node node.op
op_facts nodes node h values =
    let placed = is_placed nodes node in
    let seen = list_all (is_visible nodes node) (references node.op) in
    let seen_at_end = list_all (is_visible_at_end nodes node) (end_references node.op) in
    let a = both_true (placed && seen && seen_at_end && in_range node.op && are_inputs (inputs_of nodes node) node.inputs && is_fields (rows_type nodes node node.op) node.schema) (is_fitting nodes node node.op) h in
    let b = both_true (placed && seen && seen_at_end && in_range node.op && are_inputs (inputs_of nodes node) node.inputs) (is_fields (rows_type nodes node node.op) node.schema) a.0 in
    let c = both_true (placed && seen && seen_at_end && in_range node.op) (are_inputs (inputs_of nodes node) node.inputs) b.0 in
    let d = both_true (placed && seen && seen_at_end) (in_range node.op) c.0 in
    record {
      own = refl;
      typed = same_fields (rows_type nodes node node.op) node.schema b.1;
      inputs = same_inputs (inputs_of nodes node) node.inputs c.1;
      fitting = a.1;
      range = d.1;
      values = values;
    }

-- ---- numbers

equal_from : (m n : ℕ) → (m == n) ≡ true → m ≡ n
equal_from m n e = (Decides-eqb m n).0 e

pub eqb-refl : (n : ℕ) → (n == n) ≡ true
eqb-refl n = (Decides-eqb n n).1 refl

pub eqb-apart : (m n : ℕ) → m ≢ n → (m == n) ≡ false
eqb-apart m n h = go (m == n) refl
  where
    go : (b : Bool) → (m == n) ≡ b → b ≡ false
    go true e = absurd (h (equal_from m n e))
    go false e = refl

numbers_from : (n : ℕ) (nodes : List Node) → is_numbered n nodes ≡ true → All (λ (node : Node). n ≤ node.number) nodes
numbers_from n [] h = All-nil (λ (node : Node). n ≤ node.number)
numbers_from n (x ∷ xs) h =
    let both = both_true (x.number == n) (is_numbered (suc n) xs) h in
    let here : x.number ≡ n = equal_from x.number n both.0 in
    All-cons (λ (node : Node). n ≤ node.number) x xs (omega (arith, here)) (All-weaker (λ (node : Node). suc n ≤ node.number) (λ (node : Node). n ≤ node.number) (λ node low. omega arith) xs (numbers_from (suc n) xs both.1))

found_all : (n : ℕ) (nodes : List Node) → is_numbered n nodes ≡ true → All (λ (node : Node). node_at nodes node.number ≡ Some node) nodes
found_all n [] h = All-nil (λ (node : Node). node_at [] node.number ≡ Some node)
found_all n (x ∷ xs) h =
    let both = both_true (x.number == n) (is_numbered (suc n) xs) h in
    let here : x.number ≡ n = equal_from x.number n both.0 in
    let later = numbers_from (suc n) xs both.1 in
    let found = found_all (suc n) xs both.1 in
    All-cons (λ (node : Node). node_at (x ∷ xs) node.number ≡ Some node) x xs
    (ap (λ b. cond b (Some x) (node_at xs x.number)) (eqb-refl x.number))
    (λ i d low. behind (slice_index_or xs i d) here (later i d low) (found i d low))
  where
    behind : (node : Node) → x.number ≡ n → suc n ≤ node.number → node_at xs node.number ≡ Some node → node_at (x ∷ xs) node.number ≡ Some node
    behind node here low found = ap (λ b. cond b (Some x) (node_at xs node.number)) (eqb-apart x.number node.number (λ e. omega (arith, e, here, low))) ∙ found

pub none_below : (n : ℕ) (nodes : List Node) → is_numbered n nodes ≡ true → (m : ℕ) → m < n → node_at nodes m ≡ None
none_below n [] h m low = refl
none_below n (x ∷ xs) h m low =
    let both = both_true (x.number == n) (is_numbered (suc n) xs) h in
    let here : x.number ≡ n = equal_from x.number n both.0 in
    ap (λ b. cond b (Some x) (node_at xs m)) (eqb-apart x.number m (λ e. omega (arith, e, here, low))) ∙ none_below (suc n) xs both.1 m (omega arith)

-- each node stands behind its home
homes_before : (n open_home : ℕ) (nodes : List Node) → open_home < n → is_numbered n nodes ≡ true → are_at_home open_home nodes ≡ true → All (λ (node : Node). node.home < node.number) nodes
homes_before n open_home [] low h at = All-nil (λ (node : Node). node.home < node.number)
homes_before n open_home (x ∷ xs) low h at =
    let both = both_true (x.number == n) (is_numbered (suc n) xs) h in
    let here : x.number ≡ n = equal_from x.number n both.0 in
    let homes = both_true ((x.home == 0) || (x.home == open_home)) (are_at_home (open_after x) xs) at in
    let before : x.home < n = one_of (x.home == 0) (x.home == open_home) refl refl homes.0 in
    All-cons (λ (node : Node). node.home < node.number) x xs (omega (arith, here, before))
    (homes_before (suc n) (open_after x) xs (open_low (is_iteration x.op) here before) both.1 homes.1)
  where
    one_of : (b c : Bool) → (x.home == 0) ≡ b → (x.home == open_home) ≡ c → (b || c) ≡ true → x.home < n
    one_of true c e f k = omega (arith, equal_from x.home 0 e)
    one_of false true e f k = omega (arith, equal_from x.home open_home f)
    one_of false false e f k = cc

    open_low : (b : Bool) → x.number ≡ n → x.home < n → cond b x.number x.home < suc n
    open_low true here before = omega (arith, here)
    open_low false here before = omega (arith, before)

pub node_facts : (nodes : List Node) → is_numbered 1 nodes ≡ true → are_at_home 0 nodes ≡ true → All (λ (node : Node). node_holds nodes node ≡ true) nodes → All (λ (node : Node). states_values node.op ≡ true) nodes → All (NodeFacts nodes) nodes
node_facts nodes numbers homes holds values i d low =
    record {
      found = found_all 1 nodes numbers i d low;
      above = homes_before 1 0 nodes (omega arith) numbers homes i d low;
      of_op = op_facts nodes (slice_index_or nodes i d) (holds i d low) (values i d low);
    }

-- ---- schemas

find-passes : {X : Type 0} (p : X → Bool) (xs : List X) (y : X) → find p xs ≡ Some y → p y ≡ true
find-passes p [] y e = cc
find-passes p (x ∷ xs) y e = go (p x) refl e (find-passes p xs y)
  where
    go : (b : Bool) → p x ≡ b → cond b (Some x) (find p xs) ≡ Some y → (find p xs ≡ Some y → p y ≡ true) → p y ≡ true
    go true h f later = let same : x ≡ y = cc in subst (λ z. p z ≡ true) same h
    go false h f later = later f

-- in a list that isn't its own body a node's number stands for its schema
pub schema_in-own : (nodes : List Node) (node : Node) (home : ℕ) → node_at nodes node.number ≡ Some node → node.number ≢ home → schema_in nodes home node.number ≡ node.schema
schema_in-own nodes node home found other =
    ap (schema_at home) found ∙ ap (λ b. cond b (bind_schema node) node.schema) (eqb-apart node.number home other)

-- in its own body an iteration's number stands for its bind name's
pub schema_in-bind : (nodes : List Node) (node : Node) → node_at nodes node.number ≡ Some node → schema_in nodes node.number node.number ≡ bind_schema node
schema_in-bind nodes node found =
    ap (schema_at node.number) found ∙ ap (λ b. cond b (bind_schema node) node.schema) (eqb-refl node.number)

-- each other number stands for the same schema in the outer list and in a body
pub schema_in-other : (nodes : List Node) → node_at nodes 0 ≡ None → (home n : ℕ) → n ≢ home → schema_in nodes 0 n ≡ schema_in nodes home n
schema_in-other nodes none home n other = go (node_at nodes n) refl
  where
    outside : (node : Node) → node_at nodes n ≡ Some node → node.number ≢ 0
    outside node e zero_is =
        let is : node.number ≡ n = equal_from node.number n (find-passes (λ (m : Node). m.number == n) nodes node e) in
        let at : node_at nodes 0 ≡ Some node = ap (node_at nodes) (sym zero_is ∙ is) ∙ e in
        cc

    go : (o : Option Node) → node_at nodes n ≡ o → schema_at 0 o ≡ schema_at home o
    go None e = refl
    go (Some node) e =
        let is : node.number ≡ n = equal_from node.number n (find-passes (λ (m : Node). m.number == n) nodes node e) in
        ap (λ b. cond b (bind_schema node) node.schema) (eqb-apart node.number 0 (outside node e))
        ∙ sym (ap (λ b. cond b (bind_schema node) node.schema) (eqb-apart node.number home (λ same. other (sym is ∙ same))))
