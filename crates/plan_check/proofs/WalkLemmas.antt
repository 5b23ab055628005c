-- How the check goes on from node to node.
use Rattle.std.proofs.Common.{◌≡◌, ℕ, zero, suc, ◌<◌, ◌+◌, Bool, true, false, ◌==◌, if◌then◌else◌, List, [], ◌∷◌, ◌++◌, length, slice_get, Option, Some, None, Result, Ok, Err, refl, ap, sym, ◌∙◌, arith}
use Rattle.flow_model.specs.declared.plan.Node.{Node}
use Rattle.flow_model.specs.Rules.{is_iteration}
use Rattle.plan_text.specs.declared.tree.TreeNode.{TreeNode}
use Rattle.plan_text.specs.declared.fault.PlanFault.{PlanFault}
use Rattle.plan_text.specs.Told.{IsFault}
use Rattle.plan_text.proofs.NodeLemmas.{IsFault-on}
use Rattle.plan_check.specs.Places.{Place}
use Rattle.plan_check.specs.Numbering.{bare_node}
use Rattle.plan_check.specs.Checking.{◌>>then◌, checked_node, told_at, closed_before, opened}
use Rattle.plan_check.specs.Walks.{Walked, added, taken, walked, walked_on, opened_at, node_of, IsWithin}

-- three checks one after the other
then_then : {A B C E : Type 0} (r : Result A E) (f : A → Result B E) (g : B → Result C E) → ((r >>then f) >>then g) ≡ (r >>then λ x. f x >>then g)
then_then (Ok x) f g = refl
then_then (Err e) f g = refl

-- the nodes from one on are that node, and then the rest
pub walked_more : (ps : List Place) (w : Walked) (t : TreeNode) (ts : List TreeNode) → walked_on ps (t ∷ ts) w ≡ (walked ps w t >>then walked_on ps ts)
walked_more ps w t ts =
    let told = told_at t.number (checked_node ps w.done (bare_node ps t)) in
    let rest : Node → Result (List Node) PlanFault = λ node. walked_on ps ts (added w node) in
    sym (then_then (closed_before w.done w.current t) (λ _. taken ps w t) (walked_on ps ts)
    ∙ ap (λ (r : Result (List Node) PlanFault). closed_before w.done w.current t >>then λ _. r) (then_then told (λ node. Ok (added w node)) (walked_on ps ts)))

pub walk_on : (ps : List Place) (w later : Walked) (t : TreeNode) (ns ts : List TreeNode) (all : Result (List Node) PlanFault)
    → ns ≡ t ∷ ts → all ≡ walked_on ps ns w → walked ps w t ≡ Ok later → all ≡ walked_on ps ts later
walk_on ps w later t ns ts all first e step =
    e ∙ ap (λ (xs : List TreeNode). walked_on ps xs w) first ∙ walked_more ps w t ts ∙ ap (λ (r : Result Walked PlanFault). r >>then walked_on ps ts) step

pub walk_fault : (ps : List Place) (w : Walked) (t : TreeNode) (ns ts : List TreeNode) (all : Result (List Node) PlanFault) (f : PlanFault)
    → ns ≡ t ∷ ts → all ≡ walked_on ps ns w → IsFault f (walked ps w t) → IsFault f all
walk_fault ps w t ns ts all f first e h =
    IsFault-on f (walked ps w t) all h
    (λ step. e ∙ ap (λ (xs : List TreeNode). walked_on ps xs w) first ∙ walked_more ps w t ts ∙ ap (λ (r : Result Walked PlanFault). r >>then walked_on ps ts) step)

-- the node at a place, in a longer list
slice_get-front : {X : Type 0} (xs ys : List X) (i : ℕ) → i < length xs → slice_get (xs ++ ys) i ≡ slice_get xs i
slice_get-front [] ys i h = absurd (omega arith)
slice_get-front (x ∷ xs) ys zero h = refl
slice_get-front (x ∷ xs) ys (suc i) h = slice_get-front xs ys i (omega arith)

slice_get-last : {X : Type 0} (xs : List X) (y : X) → slice_get (xs ++ y ∷ []) (length xs) ≡ Some y
slice_get-last [] y = refl
slice_get-last (x ∷ xs) y = slice_get-last xs y

node_of-front : (done : List Node) (node : Node) (iteration : Option ℕ) → IsWithin (length done) iteration → node_of (done ++ node ∷ []) iteration ≡ node_of done iteration
node_of-front done node None h = refl
node_of-front done node (Some i) h = slice_get-front done (node ∷ []) i h

opened_in : (done : List Node) (node : Node) (iteration : Option ℕ) (outer has_body : Bool) → IsWithin (length done) iteration
    → node_of (done ++ node ∷ []) (if outer then (if has_body then Some (length done) else None) else iteration)
    ≡ (if outer then (if has_body then Some node else None) else node_of done iteration)
opened_in done node iteration true true h = slice_get-last done node
opened_in done node iteration true false h = refl
opened_in done node iteration false has_body h = node_of-front done node iteration h

-- the iteration whose body is open, after one more node
pub opened_after : (done : List Node) (node : Node) (iteration : Option ℕ) → IsWithin (length done) iteration
    → node_of (done ++ node ∷ []) (opened_at iteration (length done) node) ≡ opened (node_of done iteration) node
opened_after done node iteration h = opened_in done node iteration (node.home == 0) (is_iteration node.op) h

within_more : (n : ℕ) (iteration : Option ℕ) → IsWithin n iteration → IsWithin (n + 1) iteration
within_more n None h = tt
within_more n (Some i) h = omega arith

within_opened : (n : ℕ) (iteration : Option ℕ) (outer has_body : Bool) → IsWithin n iteration → IsWithin (n + 1) (if outer then (if has_body then Some n else None) else iteration)
within_opened n iteration true true h = omega arith
within_opened n iteration true false h = tt
within_opened n iteration false has_body h = within_more n iteration h

pub within_after : (n : ℕ) (iteration : Option ℕ) (node : Node) → IsWithin n iteration → IsWithin (n + 1) (opened_at iteration n node)
within_after n iteration node h = within_opened n iteration (node.home == 0) (is_iteration node.op) h

-- a state of these nodes, with its iteration at a place
abbrev pub at_place : List Node → Option ℕ → Result Walked PlanFault
at_place done iteration = Ok (record { done = done; current = node_of done iteration })

-- a state after one more node, by the places of its iterations
pub added_is : (w : Walked) (done more : List Node) (iteration next : Option ℕ) (count : ℕ) (node : Node)
    → record { done = done; current = node_of done iteration } ≡ w → IsWithin (length done) iteration → count ≡ length done
    → next ≡ opened_at iteration count node → more ≡ done ++ node ∷ [] → Ok (added w node) ≡ at_place more next
added_is w done more iteration next count node view within long later longer =
    let P : Walked → Result Walked PlanFault = λ v. Ok (added v node) in
    let Q : Option Node → Result Walked PlanFault = λ o. Ok (record { done = done ++ node ∷ []; current = o }) in
    ap P (sym view)
    ∙ ap Q (sym (opened_after done node iteration within))
    ∙ ap (at_place (done ++ node ∷ [])) (sym (later ∙ ap (λ n. opened_at iteration n node) long))
    ∙ ap (λ (ns : List Node). at_place ns next) (sym longer)
