-- What names stand for among checked nodes.
use Rattle.std.proofs.Common.{◌≡◌, ℕ, ◌<◌, Bool, true, false, cond, not, ◌&&◌, ◌||◌, ◌==◌, List, [], ◌∷◌, ◌++◌, map, length, refl, sym, ap, ◌∙◌, subst, arith, append_assoc, Option, Some}
use Rattle.std.specs.Str.{bytes_eq}
use Rattle.std.specs.Prelude.{nat_lt, nat_le}
use Rattle.std.proofs.lemmas.Bool.Decides.{nat_tests}
use Rattle.flow_types.proofs.ValueLemmas.{both_true}
use Rattle.flow_model.specs.declared.plan.Node.{Node}
use Rattle.flow_model.specs.Rules.{is_iteration, is_numbered, node_at, is_node, passes}
use Rattle.plan_text.specs.declared.tree.TreeNode.{TreeNode}
use Rattle.plan_check.specs.Places.{Place, binds_of, places_of, places, place_at, is_seen_at, is_seen_at_end}
use Rattle.plan_check.specs.Trees.{has_bind}
use Rattle.plan_check.proofs.Follow.{IsOf, Passed, Follows}
use Rattle.plan_check.proofs.Numbers.{equal_numbers, at_number, iterates, body_placed}

-- how a name's place shows a node: by its own name, or an iteration of the outer list by its bind name
pub data Shows (p : Place) (node : Node) : Type 0 where
  own : node.home ≡ p.home → Shows p node
  bound : p.home ≡ p.number → node.home ≡ 0 → Shows p node

-- A place is that of a node.
pub record IsPlaceOf (all : List Node) (p : Place) : Type 0 where
  pub node : Node
  pub found : node_at all p.number ≡ Some node
  pub shows : Shows p node

-- a place of a node's own, or of its bind name, or a later one
data Finds (t : TreeNode) (rest : Option Place) (p : Place) : Type 0 where
  by_name : p.number ≡ t.number → p.home ≡ t.home → Finds t rest p
  by_bind : p.number ≡ t.number → p.home ≡ t.number → has_bind t.op ≡ true → Finds t rest p
  behind : rest ≡ Some p → Finds t rest p

in_binds : (t : TreeNode) (name : List ℕ) (binds : List (List ℕ)) (more : List Place) (p : Place) → (0 < length binds → has_bind t.op ≡ true)
    → place_at (map (λ bind. record { name = bind; number = t.number; home = t.number }) binds ++ more) name ≡ Some p → Finds t (place_at more name) p
in_binds t name [] more p has h = behind h
in_binds t name (bind ∷ binds) more p has h = go (bytes_eq bind name) h (in_binds t name binds more p (λ low. has (omega arith)))
  where
    here : (q : Place) → q.number ≡ t.number → q.home ≡ t.number → Some q ≡ Some p → Finds t (place_at more name) p
    here q number home e = let same : q ≡ p = cc in by_bind (subst (λ (r : Place). r.number ≡ t.number) same number) (subst (λ (r : Place). r.home ≡ t.number) same home) (has (omega arith))

    go : (b : Bool) → cond b (Some (record { name = bind; number = t.number; home = t.number })) (place_at (map (λ bind. record { name = bind; number = t.number; home = t.number }) binds ++ more) name) ≡ Some p
        → (place_at (map (λ bind. record { name = bind; number = t.number; home = t.number }) binds ++ more) name ≡ Some p → Finds t (place_at more name) p) → Finds t (place_at more name) p
    go true e later = here (record { name = bind; number = t.number; home = t.number }) refl refl e
    go false e later = later e

in_node : (t : TreeNode) (name : List ℕ) (more : List Place) (p : Place) → place_at (places_of t ++ more) name ≡ Some p → Finds t (place_at more name) p
in_node t name more p h = go (bytes_eq t.name name) h
  where
    here : (q : Place) → q.number ≡ t.number → q.home ≡ t.home → Some q ≡ Some p → Finds t (place_at more name) p
    here q number home e = let same : q ≡ p = cc in by_name (subst (λ (r : Place). r.number ≡ t.number) same number) (subst (λ (r : Place). r.home ≡ t.home) same home)

    has : (n : ℕ) → length (binds_of t.op) ≡ n → 0 < n → not (n == 0) ≡ true
    has n e low = grind (arith, nat_tests)

    go : (b : Bool) → cond b (Some (record { name = t.name; number = t.number; home = t.home })) (place_at (map (λ bind. record { name = bind; number = t.number; home = t.number }) (binds_of t.op) ++ more) name) ≡ Some p → Finds t (place_at more name) p
    go true e = here (record { name = t.name; number = t.number; home = t.home }) refl refl e
    go false e = in_binds t name (binds_of t.op) more p (has (length (binds_of t.op)) refl) e

-- an iteration that was checked stands in the outer list
outer_of : (ps : List Place) (done : List Node) (t : TreeNode) (n : Node) → IsOf ps t n → Passed ps done n → has_bind t.op ≡ true → n.home ≡ 0
outer_of ps done t n is passed has = go (n.home == 0) refl
  where
    go : (b : Bool) → (n.home == 0) ≡ b → n.home ≡ 0
    go true e = equal_numbers n.home 0 e
    go false e =
        let none = body_placed done n passed.placed e in
        let some : is_iteration n.op ≡ true = ap is_iteration is.op ∙ iterates _ _ t.op ∙ has in
        cc

pub named : (ps : List Place) (done all : List Node) (ts : List TreeNode) (ns : List Node) (name : List ℕ) (p : Place) → Follows ps done all ts ns → all ≡ done ++ ns → is_numbered 1 all ≡ true
    → place_at (places ts) name ≡ Some p → IsPlaceOf all p
named ps done all [] [] name p f parts numbers h = cc
named ps done all [] (n ∷ ns) name p f parts numbers h = absurd f
named ps done all (t ∷ ts) [] name p f parts numbers h = absurd f
named ps done all (t ∷ ts) (n ∷ ns) name p f parts numbers h =
    go (in_node t name (places ts) p h) (named ps (done ++ n ∷ []) all ts ns name p f.1.1 (parts ∙ sym (append_assoc done (n ∷ []) ns)) numbers)
  where
    at : node_at all n.number ≡ Some n
    at = subst (λ nodes. node_at nodes n.number ≡ Some n) (sym parts) (at_number 1 done n ns (subst (λ nodes. is_numbered 1 nodes ≡ true) parts numbers))

    under : p.number ≡ t.number → node_at all p.number ≡ Some n
    under e = ap (node_at all) (e ∙ sym f.0.0.number) ∙ at

    go : Finds t (place_at (places ts) name) p → (place_at (places ts) name ≡ Some p → IsPlaceOf all p) → IsPlaceOf all p
    go (by_name number home) later = record { node = n; found = under number; shows = own (f.0.0.home ∙ sym home) }
    go (by_bind number home has) later = record { node = n; found = under number; shows = bound (home ∙ sym number) (outer_of ps done t n f.0.0 f.0.1 has) }
    go (behind rest) later = later rest

-- ---- what a number that was found shows

pub shown : (all : List Node) (p : Place) (test : Node → Bool) → IsPlaceOf all p → ((node : Node) → Shows p node → test node ≡ true) → is_node all p.number test ≡ true
shown all p test of passes_test = ap (λ o. passes test o) of.found ∙ passes_test of.node of.shows

pub seen_test : (home : ℕ) (p : Place) (number : ℕ) (node : Node) → is_seen_at number home p ≡ true → Shows p node → ((node.home == 0) || (node.home == home)) ≡ true
seen_test home p number node seen shows =
    let e = both_true (nat_lt p.number number) ((p.home == home) || ((p.home == 0) && not (p.number == home))) seen in
    by shows e.1
  where
    go : (outer inside other : Bool) → (inside || (outer && other)) ≡ true → (outer || inside) ≡ true
    go true inside other e = refl
    go false true other e = refl
    go false false other e = cc

    by : Shows p node → ((p.home == home) || ((p.home == 0) && not (p.number == home))) ≡ true → ((node.home == 0) || (node.home == home)) ≡ true
    by (own same) e = ap (λ m. (m == 0) || (m == home)) same ∙ go (p.home == 0) (p.home == home) (not (p.number == home)) e
    by (bound b zero_is) e = ap (λ m. (m == 0) || (m == home)) zero_is

pub seen_end_test : (iteration : ℕ) (p : Place) (node : Node) → is_seen_at_end iteration p ≡ true → Shows p node
    → ((node.home == iteration) || ((node.home == 0) && nat_le p.number iteration)) ≡ true
seen_end_test iteration p node seen shows = by shows
  where
    le_of : (m n : ℕ) → nat_lt m n ≡ true → nat_le m n ≡ true
    le_of m n e = grind (arith, nat_tests)

    le_same : (m n : ℕ) → m ≡ n → nat_le m n ≡ true
    le_same m n e = grind (arith, nat_tests)

    go : (inside outer before at_most : Bool) → (before ≡ true → at_most ≡ true) → (inside || (outer && before)) ≡ true → (inside || (outer && at_most)) ≡ true
    go true outer before at_most le e = refl
    go false true true at_most le e = le refl
    go false true false at_most le e = cc
    go false false before at_most le e = cc

    low : (inside before : Bool) → (p.home == iteration) ≡ inside → nat_lt p.number iteration ≡ before → p.home ≡ p.number → (inside || ((p.home == 0) && before)) ≡ true → nat_le p.number iteration ≡ true
    low true before i b home e = le_same p.number iteration (sym home ∙ equal_numbers p.home iteration i)
    low false true i b home e = le_of p.number iteration b
    low false false i b home e = none (p.home == 0) e
      where
        none : (outer : Bool) → (false || (outer && false)) ≡ true → nat_le p.number iteration ≡ true
        none true e = cc
        none false e = cc

    inner : (inside at_most : Bool) → at_most ≡ true → (inside || (true && at_most)) ≡ true
    inner true at_most e = refl
    inner false at_most e = e

    by : Shows p node → ((node.home == iteration) || ((node.home == 0) && nat_le p.number iteration)) ≡ true
    by (own same) = ap (λ m. (m == iteration) || ((m == 0) && nat_le p.number iteration)) same ∙ go (p.home == iteration) (p.home == 0) (nat_lt p.number iteration) (nat_le p.number iteration) (le_of p.number iteration) seen
    by (bound b zero_is) =
        ap (λ m. (node.home == iteration) || ((m == 0) && nat_le p.number iteration)) zero_is
        ∙ inner (node.home == iteration) (nat_le p.number iteration) (low (p.home == iteration) (nat_lt p.number iteration) refl refl b seen)
