-- What the check refuses is the first fault.
use Rattle.std.proofs.Common.{◌≡◌, ℕ, inl, inr, Bool, true, false, cond, not, ◌==◌, List, [], ◌∷◌, ◌++◌, refl, sym, ap, ◌∙◌, subst, Option, Some, None, Result, Ok, Err}
use Rattle.std.specs.Prelude.{◌⊎◌}
use Rattle.flow_types.specs.Types.{Fields}
use Rattle.flow_model.specs.declared.plan.Node.{Node}
use Rattle.flow_model.specs.declared.plan.Plan.{Plan}
use Rattle.flow_model.specs.declared.plan_code.PlanCode.{PlanCode}
use Rattle.flow_model.specs.declared.plan_code.PlanCode.TheVariants as code
use Rattle.flow_model.specs.Rules.{is_placed, references, end_references, inputs_of, home_key, is_fitting}
use Rattle.plan_text.specs.declared.tree.TreeNode.{TreeNode}
use Rattle.plan_text.specs.declared.tree.PlanTree.{PlanTree}
use Rattle.plan_text.specs.declared.fault.PlanFault.{PlanFault}
use Rattle.plan_text.specs.declared.fault.PlanFault.TheVariants as fault
use Rattle.plan_typing.specs.Typing.{typed_op}
use Rattle.plan_check.specs.Places.{Place, places, is_outer, number_of}
use Rattle.plan_check.specs.Numbering.{bare_node}
use Rattle.plan_check.specs.Checking.{◌>>then◌, is_duplicate, has_unknown, with_schemas, with_type, typed_node, checked_node, checked_end, told_at, closed, closed_before, opened, checked_nodes, plan_of_nodes, checked}
use Rattle.plan_check.specs.Walks.{Walked, unwalked, added}
use Rattle.plan_check.specs.Refusals.{Passes, FailsFirst, EndPasses, EndFailsFirst, ClosePasses, AllPass, IsOver, FaultAtNode, FaultAtEnd, FaultAtResult, RefusesFirst}
use Rattle.plan_check.proofs.Numbers.{equal_numbers}

-- ---- one node

abbrev pub IsRefused : {A : Type 0} → Result A PlanCode → PlanCode → Type 0
IsRefused r why = r ≡ Err why

-- a node that is checked passes every rule
pub record IsPassed (ps : List Place) (done : List Node) (node checked : Node) : Type 0 where
  pub schema : Fields
  pub passes : Passes ps done node schema
  pub is : checked ≡ with_schemas node (inputs_of done node) schema

node_fails : (ps : List Place) (done : List Node) (node : Node) (why : PlanCode) → checked_node ps done node ≡ Err why → FailsFirst ps done node why
node_fails ps done node why h = go (is_duplicate ps node) refl (is_placed done node) refl (has_unknown (references node.op)) refl (typed_op (inputs_of done node) (home_key done node) node.op) refl h
  where
    go : (d : Bool) → is_duplicate ps node ≡ d → (p : Bool) → is_placed done node ≡ p → (u : Bool) → has_unknown (references node.op) ≡ u
        → (r : Result Fields PlanCode) → typed_op (inputs_of done node) (home_key done node) node.op ≡ r
        → ◌≡◌ {A = Result Node PlanCode} (cond d (Err code.Duplicate) (cond (not p) (Err code.Misplaced) (cond u (Err code.UnknownName) (with_type node (inputs_of done node) r)))) (Err why)
        → FailsFirst ps done node why
    go true e p f u g r k x = let same : code.Duplicate ≡ why = cc in subst (FailsFirst ps done node) same (FailsFirst.duplicate e)
    go false e false f u g r k x = let same : code.Misplaced ≡ why = cc in subst (FailsFirst ps done node) same (FailsFirst.misplaced e f)
    go false e true f true g r k x = let same : code.UnknownName ≡ why = cc in subst (FailsFirst ps done node) same (FailsFirst.unknown e f g)
    go false e true f false g (Ok schema) k x = cc
    go false e true f false g (Err c) k x = let same : c ≡ why = cc in FailsFirst.untyped why e f g (k ∙ ap Err same)

node_passes : (ps : List Place) (done : List Node) (node passed : Node) → checked_node ps done node ≡ Ok passed → IsPassed ps done node passed
node_passes ps done node passed h = go (is_duplicate ps node) refl (is_placed done node) refl (has_unknown (references node.op)) refl (typed_op (inputs_of done node) (home_key done node) node.op) refl h
  where
    go : (d : Bool) → is_duplicate ps node ≡ d → (p : Bool) → is_placed done node ≡ p → (u : Bool) → has_unknown (references node.op) ≡ u
        → (r : Result Fields PlanCode) → typed_op (inputs_of done node) (home_key done node) node.op ≡ r
        → ◌≡◌ {A = Result Node PlanCode} (cond d (Err code.Duplicate) (cond (not p) (Err code.Misplaced) (cond u (Err code.UnknownName) (with_type node (inputs_of done node) r)))) (Ok passed)
        → IsPassed ps done node passed
    go true e p f u g r k x = cc
    go false e false f u g r k x = cc
    go false e true f true g r k x = cc
    go false e true f false g (Err c) k x = cc
    go false e true f false g (Ok schema) k x =
        let same : with_schemas node (inputs_of done node) schema ≡ passed = cc in
        record { schema = schema; passes = record { single = e; placed = f; known = g; typed = k }; is = sym same }

-- ---- one end

end_fails : (done : List Node) (iteration : Node) (why : PlanCode) → checked_end done iteration ≡ Err why → EndFailsFirst done iteration why
end_fails done iteration why h = go (has_unknown (end_references iteration.op)) refl (is_fitting done iteration iteration.op) refl h
  where
    go : (u : Bool) → has_unknown (end_references iteration.op) ≡ u → (f : Bool) → is_fitting done iteration iteration.op ≡ f
        → ◌≡◌ {A = Result (Unit {0}) PlanCode} (cond u (Err code.UnknownName) (cond (not f) (Err code.NoFit) (Ok tt))) (Err why) → EndFailsFirst done iteration why
    go true e f g x = let same : code.UnknownName ≡ why = cc in subst (EndFailsFirst done iteration) same (EndFailsFirst.unknown e)
    go false e false g x = let same : code.NoFit ≡ why = cc in subst (EndFailsFirst done iteration) same (EndFailsFirst.unfitting e g)
    go false e true g x = cc

end_passes : (done : List Node) (iteration : Node) (u : Unit {0}) → checked_end done iteration ≡ Ok u → EndPasses done iteration
end_passes done iteration v h = go (has_unknown (end_references iteration.op)) refl (is_fitting done iteration iteration.op) refl h
  where
    go : (u : Bool) → has_unknown (end_references iteration.op) ≡ u → (f : Bool) → is_fitting done iteration iteration.op ≡ f
        → ◌≡◌ {A = Result (Unit {0}) PlanCode} (cond u (Err code.UnknownName) (cond (not f) (Err code.NoFit) (Ok tt))) (Ok v) → EndPasses done iteration
    go true e f g x = cc
    go false e false g x = cc
    go false e true g x = record { known = e; fits = g }

-- ---- what is told under a number

pub record IsTold {A : Type 0} (at number : ℕ) (why : PlanCode) (r : Result A PlanCode) : Type 0 where
  pub numbered : number ≡ at
  pub refused : r ≡ Err why

told_err : {A : Type 0} (at number : ℕ) (why : PlanCode) (r : Result A PlanCode) → told_at at r ≡ Err (fault.Refused number why) → IsTold at number why r
told_err at number why (Ok x) h = cc
told_err at number why (Err c) h =
    let same : c ≡ why = cc in
    let numbers : at ≡ number = cc in
    record { numbered = sym numbers; refused = ap Err same }

told_ok : {A : Type 0} (at : ℕ) (r : Result A PlanCode) (x : A) → told_at at r ≡ Ok x → r ≡ Ok x
told_ok at (Ok y) x h = let same : y ≡ x = cc in ap Ok same
told_ok at (Err c) x h = cc

closed_passes : (done : List Node) (current : Option Node) (u : Unit {0}) → closed done current ≡ Ok u → ClosePasses done current
closed_passes done None u h = tt
closed_passes done (Some iteration) u h = end_passes done iteration u (told_ok iteration.number (checked_end done iteration) u h)

-- an end that fails
pub record ClosesBadly (done : List Node) (current : Option Node) (number : ℕ) (why : PlanCode) : Type 0 where
  pub iteration : Node
  pub opened : current ≡ Some iteration
  pub numbered : number ≡ iteration.number
  pub fails : EndFailsFirst done iteration why

closed_fails : (done : List Node) (current : Option Node) (number : ℕ) (why : PlanCode) → closed done current ≡ Err (fault.Refused number why) → ClosesBadly done current number why
closed_fails done None number why h = cc
closed_fails done (Some iteration) number why h =
    let told = told_err iteration.number number why (checked_end done iteration) h in
    record { iteration = iteration; opened = refl; numbered = told.numbered; fails = end_fails done iteration why told.refused }

-- ---- the walk

abbrev pub Fault : List Place → Walked → List TreeNode → ℕ → PlanCode → Type 0
Fault ps w ts number why = FaultAtNode ps w ts number why ⊎ FaultAtEnd ps w ts number why

end_here : (ps : List Place) (w : Walked) (ts : List TreeNode) (number : ℕ) (why : PlanCode) → IsOver ts → closed w.done w.current ≡ Err (fault.Refused number why) → FaultAtEnd ps w ts number why
end_here ps w ts number why over h =
    let bad = closed_fails w.done w.current number why h in
    record { front = []; back = ts; parts = refl; over = over; at = w; before = refl; iteration = bad.iteration; opened = bad.opened; numbered = bad.numbered; fails = bad.fails }

-- one node that passes, before the fault
further : (ps : List Place) (w : Walked) (t : TreeNode) (ts : List TreeNode) (node : Node) (number : ℕ) (why : PlanCode)
    → ((t.home == 0) ≡ true → ClosePasses w.done w.current) → IsPassed ps w.done (bare_node ps t) node
    → Fault ps (added w node) ts number why → Fault ps w (t ∷ ts) number why
further ps w t ts node number why over passed later = go (subst (λ n. Fault ps (added w n) ts number why) passed.is later)
  where
    next : Walked
    next = added w (with_schemas (bare_node ps t) (inputs_of w.done (bare_node ps t)) passed.schema)

    go : Fault ps next ts number why → Fault ps w (t ∷ ts) number why
    go (inl f) = inl (record {
      front = t ∷ f.front;
      node = f.node;
      back = f.back;
      parts = ap (λ us. t ∷ us) f.parts;
      at = f.at;
      before = (over, (passed.schema, (passed.passes, f.before)));
      closed = f.closed;
      numbered = f.numbered;
      fails = f.fails;
    })
    go (inr f) = inr (record {
      front = t ∷ f.front;
      back = f.back;
      parts = ap (λ us. t ∷ us) f.parts;
      over = f.over;
      at = f.at;
      before = (over, (passed.schema, (passed.passes, f.before)));
      iteration = f.iteration;
      opened = f.opened;
      numbered = f.numbered;
      fails = f.fails;
    })

-- the node at hand fails
here_fails : (ps : List Place) (w : Walked) (t : TreeNode) (ts : List TreeNode) (number : ℕ) (why : PlanCode)
    → ((t.home == 0) ≡ true → ClosePasses w.done w.current) → told_at t.number (checked_node ps w.done (bare_node ps t)) ≡ Err (fault.Refused number why) → FaultAtNode ps w (t ∷ ts) number why
here_fails ps w t ts number why over h =
    let told = told_err t.number number why (checked_node ps w.done (bare_node ps t)) h in
    record { front = []; node = t; back = ts; parts = refl; at = w; before = refl; closed = over; numbered = told.numbered; fails = node_fails ps w.done (bare_node ps t) why told.refused }

before_passes : (w : Walked) (t : TreeNode) (u : Unit {0}) → closed_before w.done w.current t ≡ Ok u → (t.home == 0) ≡ true → ClosePasses w.done w.current
before_passes w t u h outer = closed_passes w.done w.current u (sym (ap (λ b. cond b (closed w.done w.current) (Ok tt)) outer) ∙ h)

before_fails : (ps : List Place) (w : Walked) (t : TreeNode) (ts : List TreeNode) (number : ℕ) (why : PlanCode) → closed_before w.done w.current t ≡ Err (fault.Refused number why) → FaultAtEnd ps w (t ∷ ts) number why
before_fails ps w t ts number why h = go (t.home == 0) refl h
  where
    go : (b : Bool) → (t.home == 0) ≡ b → ◌≡◌ {A = Result (Unit {0}) PlanFault} (cond b (closed w.done w.current) (Ok tt)) (Err (fault.Refused number why)) → FaultAtEnd ps w (t ∷ ts) number why
    go true e k = end_here ps w (t ∷ ts) number why e k
    go false e k = cc

first_fault : (ps : List Place) (ts : List TreeNode) (w : Walked) (number : ℕ) (why : PlanCode) → checked_nodes ps w.done w.current ts ≡ Err (fault.Refused number why) → Fault ps w ts number why
first_fault ps [] w number why h = go (closed w.done w.current) refl h
  where
    go : (r : Result (Unit {0}) PlanFault) → closed w.done w.current ≡ r → (r >>then λ _. Ok w.done) ≡ Err (fault.Refused number why) → Fault ps w [] number why
    go (Ok u) e k = cc
    go (Err f) e k = let same : f ≡ fault.Refused number why = cc in inr (end_here ps w [] number why tt (e ∙ ap Err same))
first_fault ps (t ∷ ts) w number why h =
    go (closed_before w.done w.current t) refl (told_at t.number (checked_node ps w.done (bare_node ps t))) refl (λ node. first_fault ps ts (added w node) number why) h
  where
    go : (a : Result (Unit {0}) PlanFault) → closed_before w.done w.current t ≡ a
        → (b : Result Node PlanFault) → told_at t.number (checked_node ps w.done (bare_node ps t)) ≡ b
        → ((node : Node) → checked_nodes ps (w.done ++ node ∷ []) (opened w.current node) ts ≡ Err (fault.Refused number why) → Fault ps (added w node) ts number why)
        → (a >>then λ _. b >>then λ node. checked_nodes ps (w.done ++ node ∷ []) (opened w.current node) ts) ≡ Err (fault.Refused number why)
        → Fault ps w (t ∷ ts) number why
    go (Err f) e b d later k = let same : f ≡ fault.Refused number why = cc in inr (before_fails ps w t ts number why (e ∙ ap Err same))
    go (Ok u) e (Err f) d later k = let same : f ≡ fault.Refused number why = cc in inl (here_fails ps w t ts number why (before_passes w t u e) (d ∙ ap Err same))
    go (Ok u) e (Ok node) d later k =
        further ps w t ts node number why (before_passes w t u e)
        (node_passes ps w.done (bare_node ps t) node (told_ok t.number (checked_node ps w.done (bare_node ps t)) node d)) (later node k)

-- ---- the result

-- all nodes and ends passed
pub record IsWalked (ps : List Place) (w : Walked) (ts : List TreeNode) : Type 0 where
  pub at : Walked
  pub before : AllPass ps w ts at
  pub closed : ClosePasses at.done at.current

all_passed : (ps : List Place) (ts : List TreeNode) (w : Walked) (nodes : List Node) → checked_nodes ps w.done w.current ts ≡ Ok nodes → IsWalked ps w ts
all_passed ps [] w nodes h = go (closed w.done w.current) refl h
  where
    go : (r : Result (Unit {0}) PlanFault) → closed w.done w.current ≡ r → (r >>then λ _. Ok w.done) ≡ Ok nodes → IsWalked ps w []
    go (Ok u) e k = record { at = w; before = refl; closed = closed_passes w.done w.current u e }
    go (Err f) e k = cc
all_passed ps (t ∷ ts) w nodes h =
    go (closed_before w.done w.current t) refl (told_at t.number (checked_node ps w.done (bare_node ps t))) refl (λ node. all_passed ps ts (added w node) nodes) h
  where
    on : (node : Node) → ((t.home == 0) ≡ true → ClosePasses w.done w.current) → IsPassed ps w.done (bare_node ps t) node → IsWalked ps (added w node) ts → IsWalked ps w (t ∷ ts)
    on node over passed walk =
        let next = subst (λ n. IsWalked ps (added w n) ts) passed.is walk in
        record { at = next.at; before = (over, (passed.schema, (passed.passes, next.before))); closed = next.closed }

    go : (a : Result (Unit {0}) PlanFault) → closed_before w.done w.current t ≡ a
        → (b : Result Node PlanFault) → told_at t.number (checked_node ps w.done (bare_node ps t)) ≡ b
        → ((node : Node) → checked_nodes ps (w.done ++ node ∷ []) (opened w.current node) ts ≡ Ok nodes → IsWalked ps (added w node) ts)
        → (a >>then λ _. b >>then λ node. checked_nodes ps (w.done ++ node ∷ []) (opened w.current node) ts) ≡ Ok nodes
        → IsWalked ps w (t ∷ ts)
    go (Err f) e b d later k = cc
    go (Ok u) e (Err f) d later k = cc
    go (Ok u) e (Ok node) d later k =
        on node (before_passes w t u e) (node_passes ps w.done (bare_node ps t) node (told_ok t.number (checked_node ps w.done (bare_node ps t)) node d)) (later node k)

result_fails : (t : PlanTree) (nodes : List Node) (number : ℕ) (why : PlanCode) → IsWalked (places t.nodes) unwalked t.nodes
    → plan_of_nodes t.segment (number_of (places t.nodes) is_outer t.result) nodes ≡ Err (fault.Refused number why) → FaultAtResult t number why
result_fails t nodes number why walk h = go (number_of (places t.nodes) is_outer t.result == 0) refl h
  where
    go : (b : Bool) → (number_of (places t.nodes) is_outer t.result == 0) ≡ b
        → ◌≡◌ {A = Result Plan PlanFault} (cond b (Err (fault.Refused 0 code.BadResult)) (Ok (record { segment = t.segment; nodes = nodes; result = number_of (places t.nodes) is_outer t.result }))) (Err (fault.Refused number why))
        → FaultAtResult t number why
    go false e k = cc
    go true e k =
        let numbers : 0 ≡ number = cc in
        let codes : code.BadResult ≡ why = cc in
        record {
          at = walk.at;
          before = walk.before;
          closed = walk.closed;
          numbered = sym numbers;
          coded = sym codes;
          missing = equal_numbers (number_of (places t.nodes) is_outer t.result) 0 e;
        }

-- What the check refuses is the first fault.
pub refuses_first : RefusesFirst
refuses_first t number why h = go (checked_nodes (places t.nodes) [] None t.nodes) refl h
  where
    either : Fault (places t.nodes) unwalked t.nodes number why → FaultAtNode (places t.nodes) unwalked t.nodes number why ⊎ (FaultAtEnd (places t.nodes) unwalked t.nodes number why ⊎ FaultAtResult t number why)
    either (inl f) = inl f
    either (inr f) = inr (inl f)

    go : (r : Result (List Node) PlanFault) → checked_nodes (places t.nodes) [] None t.nodes ≡ r
        → (r >>then λ nodes. plan_of_nodes t.segment (number_of (places t.nodes) is_outer t.result) nodes) ≡ Err (fault.Refused number why)
        → FaultAtNode (places t.nodes) unwalked t.nodes number why ⊎ (FaultAtEnd (places t.nodes) unwalked t.nodes number why ⊎ FaultAtResult t number why)
    go (Err f) e k =
        let same : f ≡ fault.Refused number why = cc in
        either (first_fault (places t.nodes) t.nodes unwalked number why (e ∙ ap Err same))
    go (Ok nodes) e k = inr (inr (result_fails t nodes number why (all_passed (places t.nodes) t.nodes unwalked nodes e) k))
