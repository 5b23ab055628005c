use Rattle.std.specs.Prelude.{ℕ, Bool, false, not, ◌&&◌, ◌||◌, ◌==◌, nat_lt, if◌then◌else◌, List, [], ◌∷◌, map, find, Option, Some, None}
use Rattle.std.specs.List.{flat_map}
use Rattle.std.specs.Str.{bytes_eq}
use Rattle.plan_text.specs.declared.tree.TreeOp.{TreeOp}
use Rattle.plan_text.specs.declared.tree.TreeOp.TheVariants as tree
use Rattle.plan_text.specs.declared.tree.TreeNode.{TreeNode}

-- Where the names of a plan stand, and what is visible where. The rules are this project's own.

-- A name of a plan: the number that it stands for, and the list in which it can be seen. A node's own name is seen in the
-- node's list, and in the bodies of the outer list's iterations; a bind name in its iteration's body alone.
pub record Place : Type 0 where
  pub name : List ℕ
  pub number : ℕ
  pub home : ℕ

-- an iteration's bind name, in a list
abbrev pub binds_of : TreeOp → List (List ℕ)
binds_of (tree.Bulk init bind most next until) = bind ∷ []
binds_of (tree.Delta solution workset bind key order merge most delta next) = bind ∷ []
binds_of _ = []

-- the names that a node brings: its own, and an iteration's bind name
abbrev pub places_of : TreeNode → List Place
places_of node =
    record { name = node.name; number = node.number; home = node.home }
    ∷ map (λ bind. record { name = bind; number = node.number; home = node.number }) (binds_of node.op)

-- all names of a plan, in document order
abbrev pub places : List TreeNode → List Place
places nodes = flat_map places_of nodes

-- the first place of a name
abbrev pub place_at : List Place → List ℕ → Option Place
place_at ps name = find (λ (p : Place). bytes_eq p.name name) ps

-- What is visible at a node of this number in the body of `home`, or in the outer list at home 0: what stands before it in
-- its own list, and before it in the outer list. In an iteration's body the iteration's bind name is visible and its own
-- name isn't.
abbrev pub is_seen_at : (number home : ℕ) → Place → Bool
is_seen_at number home p = nat_lt p.number number && ((p.home == home) || ((p.home == 0) && not (p.number == home)))

-- What is visible at the end of an iteration's body: its bind name, the body's nodes, and what stands before it in the
-- outer list.
abbrev pub is_seen_at_end : (iteration : ℕ) → Place → Bool
is_seen_at_end iteration p = (p.home == iteration) || ((p.home == 0) && nat_lt p.number iteration)

-- what can be the result: a node of the outer list
abbrev pub is_outer : Place → Bool
is_outer p = p.home == 0

-- the number of a place that is there and is seen, else 0, which is no node's
abbrev pub seen_number : (Place → Bool) → Option Place → ℕ
seen_number seen None = 0
seen_number seen (Some p) = if seen p then p.number else 0

-- the number that a name stands for; 0 where it isn't visible
abbrev pub number_of : List Place → (Place → Bool) → List ℕ → ℕ
number_of ps seen name = seen_number seen (place_at ps name)

-- a place that is there stands at an earlier node than this
abbrev pub is_earlier : ℕ → Option Place → Bool
is_earlier number None = false
is_earlier number (Some p) = nat_lt p.number number

-- a name stands before a node
abbrev pub stands_before : List Place → ℕ → List ℕ → Bool
stands_before ps number name = is_earlier number (place_at ps name)
