-- The numbers and homes of checked nodes, and what stands under a number.
use Rattle.std.proofs.Common.{◌≡◌, ℕ, ◌<◌, ◌≤◌, Bool, true, false, cond, not, ◌&&◌, ◌||◌, ◌==◌, List, [], ◌∷◌, ◌++◌, refl, sym, ap, ◌∙◌, arith, suc, Some}
use Rattle.std.proofs.lemmas.Bool.Decides.{Decides-eqb}
use Rattle.flow_types.proofs.ValueLemmas.{both_true, both_pass}
use Rattle.flow_model.specs.declared.plan.Node.{Node}
use Rattle.flow_model.specs.Algebra.{is_source}
use Rattle.flow_model.specs.Rules.{is_iteration, is_probe, is_numbered, open_after, are_at_home, node_at, is_node, is_placed}
use Rattle.flow_model.specs.Segments.{is_delta}
use Rattle.model_laws.proofs.NodeFacts.{eqb-refl, eqb-apart, none_below}
use Rattle.plan_text.specs.declared.tree.TreeOp.{TreeOp}
use Rattle.plan_text.specs.declared.tree.TreeOp.TheVariants as tree
use Rattle.plan_text.specs.declared.tree.TreeNode.{TreeNode}
use Rattle.plan_check.specs.Places.{Place}
use Rattle.plan_check.specs.Numbering.{numbered}
use Rattle.plan_check.specs.Trees.{are_numbered, has_bind, is_nested, open_behind, are_in_place}
use Rattle.plan_check.proofs.Follow.{IsOf, Passed, Follows}

pub equal_numbers : (m n : ℕ) → (m == n) ≡ true → m ≡ n
equal_numbers m n e = (Decides-eqb m n).0 e

-- ---- numbers

pub numbers_follow : (ps : List Place) (done all : List Node) (k : ℕ) (ts : List TreeNode) (ns : List Node)
    → Follows ps done all ts ns → are_numbered k ts ≡ true → is_numbered k ns ≡ true
numbers_follow ps done all k [] [] f h = refl
numbers_follow ps done all k [] (n ∷ ns) f h = absurd f
numbers_follow ps done all k (t ∷ ts) [] f h = absurd f
numbers_follow ps done all k (t ∷ ts) (n ∷ ns) f h =
    let both = both_true (t.number == k) (are_numbered (suc k) ts) h in
    both_pass (n.number == k) (is_numbered (suc k) ns) (ap (λ m. m == k) f.0.0.number ∙ both.0)
    (numbers_follow ps (done ++ n ∷ []) all (suc k) ts ns f.1.1 both.1)

number_least : (k : ℕ) (before : List Node) (node : Node) (behind : List Node) → is_numbered k (before ++ node ∷ behind) ≡ true → k ≤ node.number
number_least k [] node behind h = let e = equal_numbers node.number k (both_true (node.number == k) (is_numbered (suc k) behind) h).0 in omega (arith, e)
number_least k (b ∷ before) node behind h =
    let low = number_least (suc k) before node behind (both_true (b.number == k) (is_numbered (suc k) (before ++ node ∷ behind)) h).1 in
    omega (arith, low)

-- a node stands under its number
pub at_number : (k : ℕ) (before : List Node) (node : Node) (behind : List Node) → is_numbered k (before ++ node ∷ behind) ≡ true
    → node_at (before ++ node ∷ behind) node.number ≡ Some node
at_number k [] node behind h = ap (λ b. cond b (Some node) (node_at behind node.number)) (eqb-refl node.number)
at_number k (b ∷ before) node behind h =
    let both = both_true (b.number == k) (is_numbered (suc k) (before ++ node ∷ behind)) h in
    let here = equal_numbers b.number k both.0 in
    let low = number_least (suc k) before node behind both.1 in
    ap (λ e. cond e (Some b) (node_at (before ++ node ∷ behind) node.number)) (eqb-apart b.number node.number (λ e. omega (arith, e, here, low)))
    ∙ at_number (suc k) before node behind both.1

-- under a smaller number stands what stood there before the node
pub below_number : (k : ℕ) (before : List Node) (node : Node) (behind : List Node) (n : ℕ) → is_numbered k (before ++ node ∷ behind) ≡ true
    → n < node.number → node_at (before ++ node ∷ behind) n ≡ node_at before n
below_number k [] node behind n h low =
    let here = equal_numbers node.number k (both_true (node.number == k) (is_numbered (suc k) behind) h).0 in
    none_below k (node ∷ behind) h n (omega (arith, here, low))
below_number k (b ∷ before) node behind n h low =
    let both = both_true (b.number == k) (is_numbered (suc k) (before ++ node ∷ behind)) h in
    ap (cond (b.number == n) (Some b)) (below_number (suc k) before node behind n both.1 low)

-- ---- homes

pub iterates : (start end : List ℕ → ℕ) (o : TreeOp) → is_iteration (numbered start end o) ≡ has_bind o
iterates start end (tree.Source fields delimiter) = refl
iterates start end (tree.Map input columns) = refl
iterates start end (tree.Filter input test) = refl
iterates start end (tree.FlatMap input rows) = refl
iterates start end (tree.Union names) = refl
iterates start end (tree.Distinct input) = refl
iterates start end (tree.Group input key aggs combine) = refl
iterates start end (tree.Top input key order count) = refl
iterates start end (tree.Join left right left_key right_key columns kind left_default right_default) = refl
iterates start end (tree.Cogroup left right left_key right_key left_aggs right_aggs) = refl
iterates start end (tree.Bulk init bind most next until) = refl
iterates start end (tree.Delta solution workset bind key order merge most delta next) = refl
iterates start end (tree.Probe input key columns) = refl

-- no iteration stands in a body
pub body_placed : (done : List Node) (node : Node) → is_placed done node ≡ true → (node.home == 0) ≡ false → is_iteration node.op ≡ false
body_placed done node placed inside =
    let both = both_true (not (is_source node.op || is_iteration node.op) || (node.home == 0)) (not (is_probe node.op) || is_node done node.home (λ (home : Node). is_delta home.op)) placed in
    go (is_source node.op) (is_iteration node.op) (node.home == 0) inside both.0
  where
    go : (s i outer : Bool) → outer ≡ false → (not (s || i) || outer) ≡ true → i ≡ false
    go true i outer e h = cc
    go false true outer e h = cc
    go false false outer e h = refl

-- a node that passes is no iteration in a body
pub not_nested : (ps : List Place) (done : List Node) (t : TreeNode) (n : Node) → IsOf ps t n → Passed ps done n → is_nested t ≡ false
not_nested ps done t n is passed = go (t.home == 0) refl
  where
    bind : is_iteration n.op ≡ has_bind t.op
    bind = ap is_iteration is.op ∙ iterates _ _ t.op

    go : (outer : Bool) → (t.home == 0) ≡ outer → (not outer && has_bind t.op) ≡ false
    go true e = refl
    go false e = sym bind ∙ body_placed done n passed.placed (ap (λ m. m == 0) is.home ∙ e)

-- what holds behind a node, unless it is refused, holds behind one that isn't
pub behind_one : (nested rest : Bool) → nested ≡ false → (nested || rest) ≡ true → rest ≡ true
behind_one nested rest none h = sym (ap (λ b. b || rest) none) ∙ h

-- what is open after a node, by the tree and by the plan
open_same : (ps : List Place) (done : List Node) (t : TreeNode) (n : Node) (h : ℕ) → IsOf ps t n → Passed ps done n
    → ((t.home == 0) || (t.home == h)) ≡ true → open_after n ≡ open_behind t h
open_same ps done t n h is passed place = go (t.home == 0) refl (has_bind t.op) refl
  where
    bind : is_iteration n.op ≡ has_bind t.op
    bind = ap is_iteration is.op ∙ iterates _ _ t.op

    go : (outer : Bool) → (t.home == 0) ≡ outer → (b : Bool) → has_bind t.op ≡ b → cond (is_iteration n.op) n.number n.home ≡ cond outer (cond b t.number 0) h
    go true e true f = ap (λ b. cond b n.number n.home) (bind ∙ f) ∙ is.number
    go true e false f = ap (λ b. cond b n.number n.home) (bind ∙ f) ∙ is.home ∙ equal_numbers t.home 0 e
    go false e b f =
        let none = body_placed done n passed.placed (ap (λ m. m == 0) is.home ∙ e) in
        let there : (t.home == h) ≡ true = sym (ap (λ outer. outer || (t.home == h)) e) ∙ place in
        ap (λ b. cond b n.number n.home) none ∙ is.home ∙ equal_numbers t.home h there

pub homes_follow : (ps : List Place) (done all : List Node) (h : ℕ) (ts : List TreeNode) (ns : List Node)
    → Follows ps done all ts ns → are_in_place h ts ≡ true → are_at_home h ns ≡ true
homes_follow ps done all h [] [] f p = refl
homes_follow ps done all h [] (n ∷ ns) f p = absurd f
homes_follow ps done all h (t ∷ ts) [] f p = absurd f
homes_follow ps done all h (t ∷ ts) (n ∷ ns) f p =
    let both = both_true ((t.home == 0) || (t.home == h)) (is_nested t || are_in_place (open_behind t h) ts) p in
    let rest = behind_one (is_nested t) (are_in_place (open_behind t h) ts) (not_nested ps done t n f.0.0 f.0.1) both.1 in
    both_pass ((n.home == 0) || (n.home == h)) (are_at_home (open_after n) ns)
    (ap (λ m. (m == 0) || (m == h)) f.0.0.home ∙ both.0)
    (ap (λ m. are_at_home m ns) (open_same ps done t n h f.0.0 f.0.1 both.0) ∙ homes_follow ps (done ++ n ∷ []) all (open_behind t h) ts ns f.1.1 rest)
