-- What a check that ends well has seen of each node.
use Rattle.std.proofs.Common.{◌≡◌, ℕ, Bool, true, false, cond, not, ◌==◌, List, [], ◌∷◌, ◌++◌, refl, sym, ap, ◌∙◌, subst, append_assoc, append-nil, Option, Some, None, Result, Ok, Err}
use Rattle.std.specs.Prelude.{⊤}
use Rattle.flow_types.specs.Types.{Fields}
use Rattle.flow_model.specs.declared.plan.Node.{Node}
use Rattle.flow_model.specs.declared.plan_code.PlanCode.{PlanCode}
use Rattle.flow_model.specs.declared.plan_code.PlanCode.TheVariants as code
use Rattle.flow_model.specs.Rules.{is_iteration, is_placed, references, inputs_of, home_key}
use Rattle.plan_text.specs.declared.tree.TreeNode.{TreeNode}
use Rattle.plan_typing.specs.Typing.{typed_op}
use Rattle.plan_check.specs.Places.{Place}
use Rattle.plan_check.specs.Numbering.{op_of, bare_node}
use Rattle.plan_check.specs.Checking.{◌>>then◌, is_duplicate, has_unknown, with_schemas, with_type, typed_node, checked_node, checked_end, told_at, closed, closed_before, opened, checked_nodes}

-- A node is that of a tree's node.
pub record IsOf (ps : List Place) (t : TreeNode) (node : Node) : Type 0 where
  pub number : node.number ≡ t.number
  pub name : node.name ≡ t.name
  pub home : node.home ≡ t.home
  pub op : node.op ≡ op_of ps t

-- What was seen of a node, after the nodes before it.
pub record Passed (ps : List Place) (done : List Node) (node : Node) : Type 0 where
  pub single : is_duplicate ps node ≡ false
  pub placed : is_placed done node ≡ true
  pub known : has_unknown (references node.op) ≡ false
  pub inputs : node.inputs ≡ inputs_of done node
  pub typed : typed_op node.inputs (home_key done node) node.op ≡ Ok node.schema

-- The end of an iteration's body was seen after some of the nodes.
pub record IsClosed (nodes : List Node) (node : Node) : Type 0 where
  pub before : List Node
  pub behind : List Node
  pub parts : nodes ≡ before ++ behind
  pub ended : checked_end before node ≡ Ok tt

-- the end of the body that is open, if one is
abbrev pub Closes : List Node → Option Node → Type 0
Closes nodes None = ⊤
Closes nodes (Some node) = IsClosed nodes node

-- an iteration of the outer list has its end
abbrev pub EndsWell : List Node → Node → Type 0
EndsWell nodes node = (node.home == 0) ≡ true → is_iteration node.op ≡ true → IsClosed nodes node

-- nodes that follow some, each that of a tree's node, and each seen after those before it
abbrev pub Follows : List Place → List Node → (all : List Node) → List TreeNode → List Node → Type 0
Follows ps done all [] [] = ⊤
Follows ps done all [] (n ∷ ns) = ⊥
Follows ps done all (t ∷ ts) [] = ⊥
Follows ps done all (t ∷ ts) (n ∷ ns) =
    (IsOf ps t n × Passed ps done n) × (EndsWell all n × Follows ps (done ++ n ∷ []) all ts ns)

typed_passed : (ps : List Place) (done : List Node) (t : TreeNode) (node : Node) (inputs : List Fields) (r : Result Fields PlanCode)
    → inputs ≡ inputs_of done (bare_node ps t)
    → typed_op inputs (home_key done (bare_node ps t)) (op_of ps t) ≡ r
    → is_duplicate ps (bare_node ps t) ≡ false → is_placed done (bare_node ps t) ≡ true → has_unknown (references (op_of ps t)) ≡ false
    → with_type (bare_node ps t) inputs r ≡ Ok node → IsOf ps t node × Passed ps done node
typed_passed ps done t node inputs (Err c) same typed single placed known h = cc
typed_passed ps done t node inputs (Ok schema) same typed single placed known h =
    let is : with_schemas (bare_node ps t) inputs schema ≡ node = cc in
    subst (λ n. IsOf ps t n × Passed ps done n) is (
      record { number = refl; name = refl; home = refl; op = refl },
      record { single = single; placed = placed; known = known; inputs = same; typed = typed },
    )

node_passed : (ps : List Place) (done : List Node) (t : TreeNode) (node : Node) → checked_node ps done (bare_node ps t) ≡ Ok node → IsOf ps t node × Passed ps done node
node_passed ps done t node h = go (is_duplicate ps (bare_node ps t)) refl (is_placed done (bare_node ps t)) refl (has_unknown (references (op_of ps t))) refl h
  where
    go : (d : Bool) → is_duplicate ps (bare_node ps t) ≡ d → (p : Bool) → is_placed done (bare_node ps t) ≡ p → (u : Bool) → has_unknown (references (op_of ps t)) ≡ u
        → cond d (Err code.Duplicate) (cond (not p) (Err code.Misplaced) (cond u (Err code.UnknownName) (typed_node done (bare_node ps t)))) ≡ Ok node
        → IsOf ps t node × Passed ps done node
    go true e p f u g k = cc
    go false e false f u g k = cc
    go false e true f true g k = cc
    go false e true f false g k = typed_passed ps done t node (inputs_of done (bare_node ps t)) (typed_op (inputs_of done (bare_node ps t)) (home_key done (bare_node ps t)) (op_of ps t)) refl refl e f g k

-- what a step that ends well gave
pub then_ok : {A B E : Type 0} (r : Result A E) (f : A → Result B E) (y : B) → (r >>then f) ≡ Ok y → (x : A) × ((r ≡ Ok x) × (f x ≡ Ok y))
then_ok (Ok x) f y h = (x, (refl, h))
then_ok (Err e) f y h = cc

told_ok : {A : Type 0} (n : ℕ) (r : Result A PlanCode) (x : A) → told_at n r ≡ Ok x → r ≡ Ok x
told_ok n (Ok y) x h = let same : y ≡ x = cc in ap Ok same
told_ok n (Err c) x h = cc

closed_closes : (all done more : List Node) (current : Option Node) (u : Unit) → all ≡ done ++ more → closed done current ≡ Ok u → Closes all current
closed_closes all done more None u parts h = tt
closed_closes all done more (Some node) u parts h =
    record { before = done; behind = more; parts = parts; ended = told_ok node.number (checked_end done node) tt h }

-- nodes that were checked after some, each with what was seen of it
pub record Walked (ps : List Place) (done : List Node) (current : Option Node) (ts : List TreeNode) (all : List Node) : Type 0 where
  pub more : List Node
  pub parts : all ≡ done ++ more
  pub ends : Closes all current
  pub follow : Follows ps done all ts more

-- the end of the body that is open, where the next node stands in the body or behind it
current_closes : (home : Bool) (all done more : List Node) (current : Option Node) (node : Node) (u : Unit)
    → all ≡ done ++ more → cond home (closed done current) (Ok tt) ≡ Ok u
    → Closes all (cond home (cond (is_iteration node.op) (Some node) None) current) → Closes all current
current_closes true all done more current node u parts h later = closed_closes all done more current u parts h
current_closes false all done more current node u parts h later = later

own_ends : (all : List Node) (current : Option Node) (node : Node) → Closes all (opened current node) → EndsWell all node
own_ends all current node h outer iterates =
    subst (Closes all) (ap (λ b. cond b (cond (is_iteration node.op) (Some node) None) current) outer ∙ ap (λ b. cond b (Some node) None) iterates) h

walk_step : (ps : List Place) (done : List Node) (current : Option Node) (t : TreeNode) (ts : List TreeNode) (all : List Node) (u : Unit) (node : Node)
    → closed_before done current t ≡ Ok u → checked_node ps done (bare_node ps t) ≡ Ok node
    → Walked ps (done ++ node ∷ []) (opened current node) ts all → Walked ps done current (t ∷ ts) all
walk_step ps done current t ts all u node before here later =
    let both = node_passed ps done t node here in
    let parts : all ≡ done ++ (node ∷ later.more) = later.parts ∙ append_assoc done (node ∷ []) later.more in
    let at : closed_before done current t ≡ cond (node.home == 0) (closed done current) (Ok tt) = ap (λ home. cond (home == 0) (closed done current) (Ok tt)) (sym both.0.home) in
    record {
      more = node ∷ later.more;
      parts = parts;
      ends = current_closes (node.home == 0) all done (node ∷ later.more) current node u parts (sym at ∙ before) later.ends;
      follow = (both, (own_ends all current node later.ends, later.follow));
    }

pub walked : (ps : List Place) (done : List Node) (current : Option Node) (ts : List TreeNode) (all : List Node) → checked_nodes ps done current ts ≡ Ok all → Walked ps done current ts all
walked ps done current [] all h =
    let end = then_ok (closed done current) (λ u. Ok done) all h in
    let same : done ≡ all = cc in
    let parts : all ≡ done ++ [] = sym same ∙ sym (append-nil done) in
    record { more = []; parts = parts; ends = closed_closes all done [] current end.0 parts end.1.0; follow = tt }
walked ps done current (t ∷ ts) all h =
    let before = then_ok (closed_before done current t) (λ u. told_at t.number (checked_node ps done (bare_node ps t)) >>then λ node. checked_nodes ps (done ++ node ∷ []) (opened current node) ts) all h in
    let here = then_ok (told_at t.number (checked_node ps done (bare_node ps t))) (λ node. checked_nodes ps (done ++ node ∷ []) (opened current node) ts) all before.1.1 in
    walk_step ps done current t ts all before.0 here.0 before.1.0 (told_ok t.number (checked_node ps done (bare_node ps t)) here.0 here.1.0)
    (walked ps (done ++ here.0 ∷ []) (opened current here.0) ts all here.1.1)
