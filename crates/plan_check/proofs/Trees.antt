-- What reading leaves is a tree by its rules.
use Rattle.std.proofs.Common.{◌≡◌, ℕ, ◌+◌, ◌<◌, Bool, true, false, cond, not, ◌&&◌, ◌||◌, ◌==◌, List, [], ◌∷◌, ◌++◌, length, refl, sym, ap, ◌∙◌, subst, arith, zero, suc, Option, Some, None, Result, Ok, Err}
use Rattle.std.specs.Prelude.{nat_le, nat_lt, All, codes, is_some, unwrap_or, ⊤}
use Rattle.std.proofs.lemmas.Bool.Decides.{nat_tests}
use Rattle.std.proofs.lemmas.List.Elements.{All-nil, All-cons}
use Rattle.flow_types.proofs.ValueLemmas.{both_true, both_pass}
use Rattle.flow_model.specs.declared.plan_code.PlanCode.TheVariants as code
use Rattle.flow_model.specs.Rules.{is_from, is_segment_size}
use Rattle.model_laws.proofs.NodeFacts.{eqb-refl}
use Rattle.serde_json.specs.Data.{Data}
use Rattle.serde_json.specs.Find.{get}
use Rattle.plan_json.specs.declared.rows.OpName.{OpName}
use Rattle.plan_json.specs.declared.rows.Form.TheVariants as form
use Rattle.plan_json.specs.Json.{◌>>=◌, only_if, items_in}
use Rattle.plan_json.specs.Reading.{Reading}
use Rattle.plan_json.specs.Rows.{op_name_of, has_only}
use Rattle.plan_json.specs.Names.{name_of, name_in}
use Rattle.plan_json.specs.Numbers.{number_of}
use Rattle.plan_text.specs.declared.tree.TreeNode.{TreeNode}
use Rattle.plan_text.specs.declared.tree.PlanTree.{PlanTree}
use Rattle.plan_text.specs.declared.fault.PlanFault.{PlanFault}
use Rattle.plan_text.specs.Ops.{op_in}
use Rattle.plan_text.specs.Nodes.{node_at, node_of, node_in, body_of, Placed, placed_with, placed_up_to, list_limit, placed, told_at, before, nodes_of}
use Rattle.plan_text.proofs.NodeLemmas.{deeper, no_deeper}
use Rattle.plan_text.specs.Nodes as nodes
use Rattle.plan_text.specs.Plans.{byte_limit, node_limit, segment_in, nodes_in, Outline, outline_of, refused, tree_of, outlined, plan_in, json_of, plan_of}
use Rattle.plan_check.specs.Trees.{are_numbered, has_bind, is_nested, open_behind, are_in_place, IsTree}
use Rattle.plan_check.proofs.Readings.{two_by, then_some, only_if_some}
use Rattle.plan_check.proofs.Formed.{IsFormed, where_ok, op_formed}
use Rattle.plan_check.proofs.Binds.{op_binds}

-- ---- one node

-- What was read of a placed node.
pub record IsRead (p : Placed) (t : TreeNode) : Type 0 where
  pub number : t.number ≡ p.number
  pub home : t.home ≡ p.home
  pub binds : has_bind t.op ≡ nodes.is_iteration (op_name_of p.json)
  pub formed : IsFormed t.op

node_read : (p : Placed) (o : Option OpName) (t : TreeNode) → op_name_of p.json ≡ o → node_of p.number p.home p.json o ≡ Ok t → IsRead p t
node_read p None t name e = cc
node_read p (Some o) t name e =
    two_by (IsRead p) (node_at p.number p.home) (name_in (get (codes "name") p.json)) (op_in o p.json) t
    (where_ok (has_only (form.Node o) p.json) _ t e)
    (λ own op en eo. record {
      number = refl;
      home = refl;
      binds = op_binds o p.json op eo ∙ ap nodes.is_iteration (sym name);
      formed = op_formed o p.json op eo;
    })

-- each node is what was read of its place
abbrev pub AreRead : List Placed → List TreeNode → Type 0
AreRead [] [] = ⊤
AreRead [] (t ∷ ts) = ⊥
AreRead (p ∷ ps) [] = ⊥
AreRead (p ∷ ps) (t ∷ ts) = IsRead p t × AreRead ps ts

told_read : (n : ℕ) (r : Reading TreeNode) (t : TreeNode) → told_at n r ≡ Ok t → r ≡ Ok t
told_read n (Ok x) t e = let same : x ≡ t = cc in ap Ok same
told_read n (Err f) t e = cc

abbrev pub IsOkList : List TreeNode → List TreeNode → Type 0
IsOkList ts us = ◌≡◌ {A = Result (List TreeNode) PlanFault} (Ok ts) (Ok us)

ok_list : (ts us : List TreeNode) → IsOkList ts us → ts ≡ us
ok_list ts us e = cc

nodes_read : (ps : List Placed) (ts : List TreeNode) → nodes_of ps ≡ Ok ts → AreRead ps ts
nodes_read [] ts e = let same : [] ≡ ts = cc in subst (AreRead []) same tt
nodes_read (p ∷ ps) ts e = go (told_at p.number (node_in p.number p.home p.json)) refl (nodes_of ps) refl e (nodes_read ps)
  where
    of_both : (t : TreeNode) (rest : List TreeNode) → told_at p.number (node_in p.number p.home p.json) ≡ Ok t → AreRead ps rest → IsOkList (t ∷ rest) ts → AreRead (p ∷ ps) ts
    of_both t rest here later k =
        let same : t ∷ rest ≡ ts = ok_list (t ∷ rest) ts k in
        subst (AreRead (p ∷ ps)) same (node_read p (op_name_of p.json) t refl (told_read p.number (node_in p.number p.home p.json) t here), later)

    go : (a : Result TreeNode PlanFault) → told_at p.number (node_in p.number p.home p.json) ≡ a → (b : Result (List TreeNode) PlanFault) → nodes_of ps ≡ b → before a b ≡ Ok ts
        → ((rest : List TreeNode) → nodes_of ps ≡ Ok rest → AreRead ps rest) → AreRead (p ∷ ps) ts
    go (Err f) x b y k later = cc
    go (Ok t) x (Err f) y k later = cc
    go (Ok t) x (Ok rest) y k later = of_both t rest x (later rest y) k

same_count : (ps : List Placed) (ts : List TreeNode) → AreRead ps ts → length ts ≡ length ps
same_count [] [] r = refl
same_count [] (t ∷ ts) r = absurd r
same_count (p ∷ ps) [] r = absurd r
same_count (p ∷ ps) (t ∷ ts) r = ap suc (same_count ps ts r.1)

all_formed : (ps : List Placed) (ts : List TreeNode) → AreRead ps ts → All (λ (t : TreeNode). IsFormed t.op) ts
all_formed [] [] r = All-nil (λ (t : TreeNode). IsFormed t.op)
all_formed [] (t ∷ ts) r = absurd r
all_formed (p ∷ ps) [] r = absurd r
all_formed (p ∷ ps) (t ∷ ts) r = All-cons (λ (t : TreeNode). IsFormed t.op) t ts r.0.formed (all_formed ps ts r.1)

-- ---- numbers

abbrev pub are_counted : ℕ → List Placed → Bool
are_counted n [] = true
are_counted n (p ∷ ps) = (p.number == n) && are_counted (suc n) ps

counted-append : (n : ℕ) (ps qs : List Placed) → are_counted n ps ≡ true → are_counted (n + length ps) qs ≡ true → are_counted n (ps ++ qs) ≡ true
counted-append n [] qs a b = let none : n + length {A = Placed} [] ≡ n = omega arith in ap (λ m. are_counted m qs) (sym none) ∙ b
counted-append n (p ∷ ps) qs a b =
    let both = both_true (p.number == n) (are_counted (suc n) ps) a in
    let at : n + length (p ∷ ps) ≡ suc n + length ps = omega arith in
    both_pass (p.number == n) (are_counted (suc n) (ps ++ qs)) both.0 (counted-append (suc n) ps qs both.1 (ap (λ m. are_counted m qs) (sym at) ∙ b))

counted-with : (inner : ℕ → ℕ → List Data → List Placed) → ((home n : ℕ) (ds : List Data) → are_counted n (inner home n ds) ≡ true)
    → (home n : ℕ) (ds : List Data) → are_counted n (placed_with inner home n ds) ≡ true
counted-with inner all home n [] = refl
counted-with inner all home n (d ∷ ds) =
    let body = inner n (n + 1) (body_of d) in
    let rest = placed_with inner home (n + 1 + length body) ds in
    let next : n + 1 ≡ suc n = omega arith in
    let at : n + 1 + length body ≡ suc n + length body = omega arith in
    both_pass (n == n) (are_counted (suc n) (body ++ rest)) (eqb-refl n)
    (counted-append (suc n) body rest
    (ap (λ m. are_counted m body) (sym next) ∙ all n (n + 1) (body_of d))
    (ap (λ m. are_counted m rest) (sym at) ∙ counted-with inner all home (n + 1 + length body) ds))

counted : (depth home n : ℕ) (ds : List Data) → are_counted n (placed_up_to depth home n ds) ≡ true
counted zero home n ds = ap (are_counted n) (no_deeper home n ds)
counted (suc depth) home n ds = ap (are_counted n) (deeper depth home n ds) ∙ counted-with (placed_up_to depth) (counted depth) home n ds

numbers_read : (n : ℕ) (ps : List Placed) (ts : List TreeNode) → AreRead ps ts → are_counted n ps ≡ true → are_numbered n ts ≡ true
numbers_read n [] [] r h = refl
numbers_read n [] (t ∷ ts) r h = absurd r
numbers_read n (p ∷ ps) [] r h = absurd r
numbers_read n (p ∷ ps) (t ∷ ts) r h =
    let both = both_true (p.number == n) (are_counted (suc n) ps) h in
    both_pass (t.number == n) (are_numbered (suc n) ts) (ap (λ m. m == n) r.0.number ∙ both.0) (numbers_read (suc n) ps ts r.1 both.1)

-- ---- homes

abbrev pub open_at : Placed → ℕ → ℕ
open_at p h = cond (p.home == 0) (cond (nodes.is_iteration (op_name_of p.json)) p.number 0) h

abbrev pub nested_at : Placed → Bool
nested_at p = not (p.home == 0) && nodes.is_iteration (op_name_of p.json)

abbrev pub are_at : ℕ → List Placed → Bool
are_at h [] = true
are_at h (p ∷ ps) = ((p.home == 0) || (p.home == h)) && (nested_at p || are_at (open_at p h) ps)

either_read : (a b x y : Bool) → a ≡ b → (x ≡ true → y ≡ true) → (b || x) ≡ true → (a || y) ≡ true
either_read a true x y same on h = ap (λ c. c || y) same
either_read a false x y same on h = ap (λ c. c || y) same ∙ on h

homes_read : (h : ℕ) (ps : List Placed) (ts : List TreeNode) → AreRead ps ts → are_at h ps ≡ true → are_in_place h ts ≡ true
homes_read h [] [] r e = refl
homes_read h [] (t ∷ ts) r e = absurd r
homes_read h (p ∷ ps) [] r e = absurd r
homes_read h (p ∷ ps) (t ∷ ts) r e =
    let both = both_true ((p.home == 0) || (p.home == h)) (nested_at p || are_at (open_at p h) ps) e in
    let next : open_behind t h ≡ open_at p h =
    ap (λ m. cond (m == 0) (cond (has_bind t.op) t.number 0) h) r.0.home
    ∙ ap (λ b. cond (p.home == 0) (cond b t.number 0) h) r.0.binds
    ∙ ap (λ m. cond (p.home == 0) (cond (nodes.is_iteration (op_name_of p.json)) m 0) h) r.0.number in
    let nested : is_nested t ≡ nested_at p = ap (λ m. not (m == 0) && has_bind t.op) r.0.home ∙ ap (λ b. not (p.home == 0) && b) r.0.binds in
    both_pass ((t.home == 0) || (t.home == h)) (is_nested t || are_in_place (open_behind t h) ts)
    (ap (λ m. (m == 0) || (m == h)) r.0.home ∙ both.0)
    (either_read (is_nested t) (nested_at p) (are_at (open_at p h) ps) (are_in_place (open_behind t h) ts) nested
    (λ k. ap (λ m. are_in_place m ts) next ∙ homes_read (open_at p h) ps ts r.1 k) both.1)

either_same : (a : Bool) (n : ℕ) → (a || (n == n)) ≡ true
either_same true n = refl
either_same false n = eqb-refl n

-- no list is nothing, however deep
nothing_in : (depth home n : ℕ) → placed_up_to depth home n [] ≡ []
nothing_in zero home n = no_deeper home n []
nothing_in (suc depth) home n = deeper depth home n []

-- a node that is no iteration has no body
no_body : (d : Data) → nodes.is_iteration (op_name_of d) ≡ false → body_of d ≡ []
no_body d e = ap (λ b. cond b (unwrap_or (get (codes "body") d >>= items_in) []) []) e

-- a body whose iteration is open, before nodes that may stand behind any
body_at : (depth n m : ℕ) (ds : List Data) (rest : List Placed) → (n == 0) ≡ false → ((h : ℕ) → are_at h rest ≡ true) → are_at n (placed_with (placed_up_to depth) n m ds ++ rest) ≡ true
body_at depth n m [] rest some later = later n
body_at depth n m (d ∷ ds) rest some later =
    both_pass ((n == 0) || (n == n)) (nested_at p || are_at (open_at p n) ((body ++ behind) ++ rest)) (either_same (n == 0) n)
    (go (nodes.is_iteration (op_name_of d)) refl (body_at depth n (m + 1 + length body) ds rest some later))
  where
    p : Placed
    p = record { number = m; home = n; json = d }

    body : List Placed
    body = placed_up_to depth m (m + 1) (body_of d)

    behind : List Placed
    behind = placed_with (placed_up_to depth) n (m + 1 + length body) ds

    go : (b : Bool) → nodes.is_iteration (op_name_of d) ≡ b → are_at n (behind ++ rest) ≡ true → (nested_at p || are_at (open_at p n) ((body ++ behind) ++ rest)) ≡ true
    go true e next = ap (λ c. (not c && nodes.is_iteration (op_name_of d)) || are_at (open_at p n) ((body ++ behind) ++ rest)) some
        ∙ ap (λ c. c || are_at (open_at p n) ((body ++ behind) ++ rest)) e
    go false e next =
        let none : body ≡ [] = ap (placed_up_to depth m (m + 1)) (no_body d e) ∙ nothing_in depth m (m + 1) in
        ap (λ c. (not (n == 0) && c) || are_at (open_at p n) ((body ++ behind) ++ rest)) e
        ∙ ap (λ c. (not c && false) || are_at (cond c (cond (nodes.is_iteration (op_name_of d)) m 0) n) ((body ++ behind) ++ rest)) some
        ∙ ap (λ b. are_at n ((b ++ behind) ++ rest)) none ∙ next

body_up_to : (depth n m : ℕ) (ds : List Data) (rest : List Placed) → (n == 0) ≡ false → ((h : ℕ) → are_at h rest ≡ true) → are_at n (placed_up_to depth n m ds ++ rest) ≡ true
body_up_to zero n m ds rest some later = ap (λ b. are_at n (b ++ rest)) (no_deeper n m ds) ∙ later n
body_up_to (suc depth) n m ds rest some later = ap (λ b. are_at n (b ++ rest)) (deeper depth n m ds) ∙ body_at depth n m ds rest some later

not_zero : (n : ℕ) → 0 < n → (n == 0) ≡ false
not_zero n low = grind (arith, nat_tests)

all_at : (depth n : ℕ) (ds : List Data) → 0 < n → (h : ℕ) → are_at h (placed_with (placed_up_to depth) 0 n ds) ≡ true
all_at depth n [] low h = refl
all_at depth n (d ∷ ds) low h = go (nodes.is_iteration (op_name_of d)) refl (all_at depth (n + 1 + length body) ds (omega arith))
  where
    body : List Placed
    body = placed_up_to depth n (n + 1) (body_of d)

    behind : List Placed
    behind = placed_with (placed_up_to depth) 0 (n + 1 + length body) ds

    go : (b : Bool) → nodes.is_iteration (op_name_of d) ≡ b → ((k : ℕ) → are_at k behind ≡ true) → are_at (cond (nodes.is_iteration (op_name_of d)) n 0) (body ++ behind) ≡ true
    go true e later = ap (λ b. are_at (cond b n 0) (body ++ behind)) e ∙ body_up_to depth n (n + 1) (body_of d) behind (not_zero n low) later
    go false e later =
        let none : body ≡ [] = ap (placed_up_to depth n (n + 1)) (no_body d e) ∙ nothing_in depth n (n + 1) in
        ap (λ b. are_at (cond b n 0) (body ++ behind)) e ∙ ap (λ b. are_at 0 (b ++ behind)) none ∙ later 0

-- the outer list, before it is opened deeper
outer_list : (n : ℕ) (ds : List Data) → placed n ds ≡ placed_with (placed_up_to 64) 0 n ds
outer_list n ds = deeper 64 0 n ds

-- ---- a plan's own members

segment_ok : (member : Option Data) (n : ℕ) → segment_in member ≡ Some n → is_segment_size n ≡ true
segment_ok None n e = let same : 32768 ≡ n = cc in ap is_segment_size (sym same)
segment_ok (Some d) n e =
    let one = then_some (number_of 4096 32768 d) (λ n. only_if (is_segment_size n) n) n e in
    let two = only_if_some (is_segment_size one.0) one.0 n one.1.1 in
    ap is_segment_size (sym two.1) ∙ two.0

some_nodes : (member : Option Data) (items : List Data) → nodes_in member ≡ Some items → nat_le 1 (length items) ≡ true
some_nodes member items e =
    let list = then_some (member >>= items_in) (λ items. only_if (nat_le 1 (length items)) items) items e in
    let one = only_if_some (nat_le 1 (length list.0)) list.0 items list.1.1 in
    ap (λ ds. nat_le 1 (length ds)) (sym one.1) ∙ one.0

one_more : (n : ℕ) → nat_le 1 (suc n) ≡ true
one_more n = grind (arith, nat_tests)

some_placed : (n : ℕ) (ds : List Data) → nat_le 1 (length ds) ≡ true → nat_le 1 (length (placed n ds)) ≡ true
some_placed n [] h = ap (λ ps. nat_le 1 (length ps)) (outer_list n []) ∙ h
some_placed n (d ∷ ds) h =
    let body = placed_up_to 64 n (n + 1) (body_of d) in
    ap (λ ps. nat_le 1 (length ps)) (outer_list n (d ∷ ds)) ∙ one_more (length (body ++ placed_with (placed_up_to 64) 0 (n + 1 + length body) ds))

at_most_64 : (n : ℕ) → nat_lt node_limit n ≡ false → nat_le n 64 ≡ true
at_most_64 n h = grind (arith, nat_tests)

outline_ok : (d : Data) (o : Outline) → outline_of d ≡ Some o → (is_segment_size o.segment ≡ true) × (nat_le 1 (length o.nodes) ≡ true)
outline_ok d o e =
    let segment = then_some (segment_in (get (codes "segment") d)) (λ segment. nodes_in (get (codes "nodes") d) >>= λ nodes. (get (codes "result") d >>= name_of) >>= λ result.
    only_if (has_only form.Plan d && is_some (get (codes "version") d >>= number_of 1 1)) (record { segment = segment; nodes = nodes; result = result })) o e in
    let items = then_some (nodes_in (get (codes "nodes") d)) (λ nodes. (get (codes "result") d >>= name_of) >>= λ result.
    only_if (has_only form.Plan d && is_some (get (codes "version") d >>= number_of 1 1)) (record { segment = segment.0; nodes = nodes; result = result })) o segment.1.1 in
    let result = then_some (get (codes "result") d >>= name_of) (λ result.
    only_if (has_only form.Plan d && is_some (get (codes "version") d >>= number_of 1 1)) (record { segment = segment.0; nodes = items.0; result = result })) o items.1.1 in
    let same = (only_if_some (has_only form.Plan d && is_some (get (codes "version") d >>= number_of 1 1)) (record { segment = segment.0; nodes = items.0; result = result.0 }) o result.1.1).1 in (
      ap (λ (x : Outline). is_segment_size x.segment) (sym same) ∙ segment_ok (get (codes "segment") d) segment.0 segment.1.0,
      ap (λ (x : Outline). nat_le 1 (length x.nodes)) (sym same) ∙ some_nodes (get (codes "nodes") d) items.0 items.1.0,
    )

-- ---- the whole

abbrev pub IsOkTree : PlanTree → PlanTree → Type 0
IsOkTree t u = ◌≡◌ {A = Result PlanTree PlanFault} (Ok t) (Ok u)

ok_tree : (t u : PlanTree) → IsOkTree t u → t ≡ u
ok_tree t u e = cc

of_nodes : (segment : ℕ) (result : List ℕ) (items : List Data) (t : PlanTree) → is_segment_size segment ≡ true → nat_le 1 (length items) ≡ true → nat_lt node_limit (length (placed 1 items)) ≡ false
    → tree_of segment result (nodes_of (placed 1 items)) ≡ Ok t → IsTree t
of_nodes segment result items t size some few h = go (nodes_of (placed 1 items)) refl h
  where
    of_tree : (ts : List TreeNode) → nodes_of (placed 1 items) ≡ Ok ts → IsOkTree (record { segment = segment; nodes = ts; result = result }) t → IsTree t
    of_tree ts e k =
        let same : record { segment = segment; nodes = ts; result = result } ≡ t = ok_tree (record { segment = segment; nodes = ts; result = result }) t k in
        let read = nodes_read (placed 1 items) ts e in
        let made : IsTree (record { segment = segment; nodes = ts; result = result }) = record {
          segment = size;
          count = ap (is_from 1 64) (same_count (placed 1 items) ts read) ∙ both_pass (nat_le 1 (length (placed 1 items))) (nat_le (length (placed 1 items)) 64) (some_placed 1 items some) (at_most_64 (length (placed 1 items)) few);
          numbers = numbers_read 1 (placed 1 items) ts read (counted list_limit 0 1 items);
          homes = homes_read 0 (placed 1 items) ts read (ap (are_at 0) (outer_list 1 items) ∙ all_at 64 1 items (omega arith) 0);
          ops = all_formed (placed 1 items) ts read;
        } in
        subst IsTree same made

    go : (r : Result (List TreeNode) PlanFault) → nodes_of (placed 1 items) ≡ r → tree_of segment result r ≡ Ok t → IsTree t
    go (Err f) e k = cc
    go (Ok ts) e k = of_tree ts e k

of_outline : (d : Data) (o : Option Outline) (t : PlanTree) → outline_of d ≡ o → outlined o ≡ Ok t → IsTree t
of_outline d None t e h = cc
of_outline d (Some o) t e h = go (nat_lt node_limit (length (placed 1 o.nodes))) refl h
  where
    go : (b : Bool) → nat_lt node_limit (length (placed 1 o.nodes)) ≡ b → cond b (refused 0 code.TooMany) (tree_of o.segment o.result (nodes_of (placed 1 o.nodes))) ≡ Ok t → IsTree t
    go true f k = cc
    go false f k = let ok = outline_ok d o e in of_nodes o.segment o.result o.nodes t ok.0 ok.1 f k

of_json : (d : Option Data) (t : PlanTree) → plan_in d ≡ Ok t → IsTree t
of_json None t h = cc
of_json (Some d) t h = of_outline d (outline_of d) t refl h

-- The tree of a plan's bytes keeps the rules of trees.
pub reading_leaves_trees : (bytes : List ℕ) (t : PlanTree) → plan_of bytes ≡ Ok t → IsTree t
reading_leaves_trees bytes t h = go (nat_lt byte_limit (length bytes)) h
  where
    go : (b : Bool) → cond b (refused 0 code.TooBig) (plan_in (json_of bytes)) ≡ Ok t → IsTree t
    go true k = cc
    go false k = of_json (json_of bytes) t k
