-- Where each checked node stands, and what was seen of it.
use Rattle.std.proofs.Common.{◌≡◌, ℕ, ◌<◌, Bool, true, false, cond, ◌||◌, ◌==◌, List, [], ◌∷◌, ◌++◌, refl, sym, ◌∙◌, arith, suc, append_assoc}
use Rattle.std.specs.Prelude.{All}
use Rattle.std.proofs.lemmas.List.Elements.{All-nil, All-cons, All-head, All-tail}
use Rattle.flow_types.proofs.ValueLemmas.{both_true}
use Rattle.flow_model.specs.declared.plan.Node.{Node}
use Rattle.plan_text.specs.declared.tree.TreeNode.{TreeNode}
use Rattle.plan_check.specs.Places.{Place}
use Rattle.plan_check.specs.Trees.{are_numbered, has_bind, is_nested, open_behind, are_in_place, is_formed, unnumbered}
use Rattle.plan_check.proofs.Follow.{IsOf, Passed, EndsWell, Follows}
use Rattle.plan_check.proofs.Numbers.{equal_numbers, not_nested, behind_one}

-- A checked node: the tree's node that it is, the nodes before and behind it, and what was seen.
pub record Stands (ps : List Place) (all : List Node) (node : Node) : Type 0 where
  pub t : TreeNode
  pub before : List Node
  pub behind : List Node
  pub parts : all ≡ before ++ node ∷ behind
  pub is : IsOf ps t node
  pub passed : Passed ps before node
  pub ends : EndsWell all node
  pub formed : is_formed (unnumbered t.op) ≡ true
  pub above : node.home < node.number

-- a body is open under a number below the next node's
open_below : (t : TreeNode) (h k : ℕ) → t.number ≡ k → h < k → open_behind t h < suc k
open_below t h k is low = go (t.home == 0) (has_bind t.op)
  where
    go : (outer b : Bool) → cond outer (cond b t.number 0) h < suc k
    go true true = omega (arith, is)
    go true false = omega arith
    go false b = omega (arith, low)

home_below : (t : TreeNode) (h k : ℕ) → h < k → ((t.home == 0) || (t.home == h)) ≡ true → t.home < k
home_below t h k low e = go (t.home == 0) refl (t.home == h) refl e
  where
    go : (a : Bool) → (t.home == 0) ≡ a → (b : Bool) → (t.home == h) ≡ b → (a || b) ≡ true → t.home < k
    go true f b g x = omega (arith, equal_numbers t.home 0 f, low)
    go false f true g x = omega (arith, equal_numbers t.home h g, low)
    go false f false g x = cc

below_same : (t : TreeNode) (node : Node) (k : ℕ) → node.number ≡ t.number → node.home ≡ t.home → t.number ≡ k → t.home < k → node.home < node.number
below_same t node k number home is low = omega (arith, number, home, is, low)

pub all_stand : (ps : List Place) (done all : List Node) (h k : ℕ) (ts : List TreeNode) (ns : List Node) → Follows ps done all ts ns → all ≡ done ++ ns
    → are_numbered k ts ≡ true → h < k → are_in_place h ts ≡ true → All (λ (t : TreeNode). is_formed (unnumbered t.op) ≡ true) ts
    → All (Stands ps all) ns
all_stand ps done all h k [] [] f parts numbers low places formed = All-nil (Stands ps all)
all_stand ps done all h k [] (n ∷ ns) f parts numbers low places formed = absurd f
all_stand ps done all h k (t ∷ ts) [] f parts numbers low places formed = absurd f
all_stand ps done all h k (t ∷ ts) (n ∷ ns) f parts numbers low places formed =
    let number = both_true (t.number == k) (are_numbered (suc k) ts) numbers in
    let place = both_true ((t.home == 0) || (t.home == h)) (is_nested t || are_in_place (open_behind t h) ts) places in
    let rest = behind_one (is_nested t) (are_in_place (open_behind t h) ts) (not_nested ps done t n f.0.0 f.0.1) place.1 in
    let here = equal_numbers t.number k number.0 in
    All-cons (Stands ps all) n ns
    (record {
      t = t;
      before = done;
      behind = ns;
      parts = parts;
      is = f.0.0;
      passed = f.0.1;
      ends = f.1.0;
      formed = All-head (λ (t : TreeNode). is_formed (unnumbered t.op) ≡ true) t ts formed;
      above = below_same t n k f.0.0.number f.0.0.home here (home_below t h k low place.0);
    })
    (all_stand ps (done ++ n ∷ []) all (open_behind t h) (suc k) ts ns f.1.1 (parts ∙ sym (append_assoc done (n ∷ []) ns))
    number.1 (open_below t h k here low) rest (All-tail (λ (t : TreeNode). is_formed (unnumbered t.op) ≡ true) t ts formed))
