-- The numbers that a checked node refers to are visible where it stands.
use Rattle.std.proofs.Common.{◌≡◌, ℕ, Bool, true, false, cond, not, ◌&&◌, ◌||◌, ◌==◌, List, [], ◌∷◌, map, refl, sym, ap, ◌∙◌, Option, Some, None}
use Rattle.std.specs.List.{list_all}
use Rattle.std.specs.Prelude.{nat_lt, nat_le}
use Rattle.flow_types.proofs.ValueLemmas.{both_true, both_pass}
use Rattle.flow_model.specs.declared.plan.Node.{Node}
use Rattle.flow_model.specs.Rules.{is_node, references, end_references, is_visible, is_visible_at_end}
use Rattle.plan_text.specs.declared.tree.TreeOp.{TreeOp}
use Rattle.plan_text.specs.declared.tree.TreeOp.TheVariants as tree
use Rattle.plan_check.specs.Places.{Place, place_at, is_seen_at, is_seen_at_end, seen_number, number_of}
use Rattle.plan_check.specs.Numbering.{numbered}
use Rattle.plan_check.specs.Checking.{has_unknown}
use Rattle.plan_check.proofs.Named.{IsPlaceOf, shown, seen_test, seen_end_test}

-- the names that an op refers to where it stands
abbrev pub start_names : TreeOp → List (List ℕ)
start_names (tree.Source fields delimiter) = []
start_names (tree.Map input columns) = input ∷ []
start_names (tree.Filter input test) = input ∷ []
start_names (tree.FlatMap input rows) = input ∷ []
start_names (tree.Union names) = names
start_names (tree.Distinct input) = input ∷ []
start_names (tree.Group input key aggs combine) = input ∷ []
start_names (tree.Top input key order count) = input ∷ []
start_names (tree.Join left right left_key right_key columns kind left_default right_default) = left ∷ right ∷ []
start_names (tree.Cogroup left right left_key right_key left_aggs right_aggs) = left ∷ right ∷ []
start_names (tree.Bulk init bind most next until) = init ∷ []
start_names (tree.Delta solution workset bind key order merge most delta next) = solution ∷ workset ∷ []
start_names (tree.Probe input key columns) = input ∷ []

abbrev pub named_if : Option (List ℕ) → List (List ℕ)
named_if None = []
named_if (Some name) = name ∷ []

-- the names that an iteration refers to at its body's end
abbrev pub end_names : TreeOp → List (List ℕ)
end_names (tree.Bulk init bind most next until) = next ∷ named_if until
end_names (tree.Delta solution workset bind key order merge most delta next) = delta ∷ next ∷ []
end_names _ = []

start_references : (start end : List ℕ → ℕ) (o : TreeOp) → references (numbered start end o) ≡ map start (start_names o)
start_references start end (tree.Source fields delimiter) = refl
start_references start end (tree.Map input columns) = refl
start_references start end (tree.Filter input test) = refl
start_references start end (tree.FlatMap input rows) = refl
start_references start end (tree.Union names) = refl
start_references start end (tree.Distinct input) = refl
start_references start end (tree.Group input key aggs combine) = refl
start_references start end (tree.Top input key order count) = refl
start_references start end (tree.Join left right left_key right_key columns kind left_default right_default) = refl
start_references start end (tree.Cogroup left right left_key right_key left_aggs right_aggs) = refl
start_references start end (tree.Bulk init bind most next until) = refl
start_references start end (tree.Delta solution workset bind key order merge most delta next) = refl
start_references start end (tree.Probe input key columns) = refl

end_numbers : (start end : List ℕ → ℕ) (o : TreeOp) → end_references (numbered start end o) ≡ map end (end_names o)
end_numbers start end (tree.Source fields delimiter) = refl
end_numbers start end (tree.Map input columns) = refl
end_numbers start end (tree.Filter input test) = refl
end_numbers start end (tree.FlatMap input rows) = refl
end_numbers start end (tree.Union names) = refl
end_numbers start end (tree.Distinct input) = refl
end_numbers start end (tree.Group input key aggs combine) = refl
end_numbers start end (tree.Top input key order count) = refl
end_numbers start end (tree.Join left right left_key right_key columns kind left_default right_default) = refl
end_numbers start end (tree.Cogroup left right left_key right_key left_aggs right_aggs) = refl
end_numbers start end (tree.Bulk init bind most next None) = refl
end_numbers start end (tree.Bulk init bind most next (Some until)) = refl
end_numbers start end (tree.Delta solution workset bind key order merge most delta next) = refl
end_numbers start end (tree.Probe input key columns) = refl

-- A name that is visible: its place, and its number.
pub record IsSeen (ps : List Place) (seen : Place → Bool) (name : List ℕ) : Type 0 where
  pub place : Place
  pub there : place_at ps name ≡ Some place
  pub visible : seen place ≡ true
  pub number : number_of ps seen name ≡ place.number

pub is_seen : (ps : List Place) (seen : Place → Bool) (name : List ℕ) → (number_of ps seen name == 0) ≡ false → IsSeen ps seen name
is_seen ps seen name h = go (place_at ps name) refl h
  where
    found : (p : Place) (b : Bool) → place_at ps name ≡ Some p → seen p ≡ b → (cond b p.number 0 == 0) ≡ false → IsSeen ps seen name
    found p false e f k = cc
    found p true e f k = record { place = p; there = e; visible = f; number = ap (seen_number seen) e ∙ ap (λ b. cond b p.number 0) f }

    go : (o : Option Place) → place_at ps name ≡ o → (seen_number seen o == 0) ≡ false → IsSeen ps seen name
    go None e k = cc
    go (Some p) e k = found p (seen p) e refl k

all_pass : (test : ℕ → Bool) (s : List ℕ → ℕ) (names : List (List ℕ)) → ((name : List ℕ) → (s name == 0) ≡ false → test (s name) ≡ true)
    → has_unknown (map s names) ≡ false → list_all test (map s names) ≡ true
all_pass test s [] one h = refl
all_pass test s (name ∷ names) one h = go (s name == 0) refl h
    (all_pass test s names one)
  where
    go : (b : Bool) → (s name == 0) ≡ b → (b || has_unknown (map s names)) ≡ false → (has_unknown (map s names) ≡ false → list_all test (map s names) ≡ true)
        → (test (s name) && list_all test (map s names)) ≡ true
    go true e k later = cc
    go false e k later = both_pass (test (s name)) (list_all test (map s names)) (one name e) (later k)

-- every place of a name is that of a node
abbrev pub AreNamed : List Place → List Node → Type 0
AreNamed ps all = (name : List ℕ) (p : Place) → place_at ps name ≡ Some p → IsPlaceOf all p

start_visible : (ps : List Place) (all : List Node) (node : Node) → AreNamed ps all → (name : List ℕ)
    → (number_of ps (is_seen_at node.number node.home) name == 0) ≡ false → is_visible all node (number_of ps (is_seen_at node.number node.home) name) ≡ true
start_visible ps all node names name h =
    let s = is_seen ps (is_seen_at node.number node.home) name h in
    let p = s.place in
    let low = both_true (nat_lt p.number node.number) ((p.home == node.home) || ((p.home == 0) && not (p.number == node.home))) s.visible in
    ap (is_visible all node) s.number
    ∙ both_pass (nat_lt p.number node.number) (is_node all p.number (λ (m : Node). (m.home == 0) || (m.home == node.home))) low.0
    (shown all p (λ (m : Node). (m.home == 0) || (m.home == node.home)) (names name p s.there) (λ m shows. seen_test node.home p node.number m s.visible shows))

end_visible : (ps : List Place) (all : List Node) (node : Node) → AreNamed ps all → (name : List ℕ)
    → (number_of ps (is_seen_at_end node.number) name == 0) ≡ false → is_visible_at_end all node (number_of ps (is_seen_at_end node.number) name) ≡ true
end_visible ps all node names name h =
    let s = is_seen ps (is_seen_at_end node.number) name h in
    let p = s.place in
    ap (is_visible_at_end all node) s.number
    ∙ shown all p (λ (m : Node). (m.home == node.number) || ((m.home == 0) && nat_le p.number node.number)) (names name p s.there) (λ m shows. seen_end_test node.number p m s.visible shows)

pub starts_visible : (ps : List Place) (all : List Node) (node : Node) (o : TreeOp) → AreNamed ps all
    → node.op ≡ numbered (number_of ps (is_seen_at node.number node.home)) (number_of ps (is_seen_at_end node.number)) o
    → has_unknown (references node.op) ≡ false → list_all (is_visible all node) (references node.op) ≡ true
starts_visible ps all node o names is h =
    let start = number_of ps (is_seen_at node.number node.home) in
    let are : references node.op ≡ map (number_of ps (is_seen_at node.number node.home)) (start_names o) = ap references is ∙ start_references _ _ o in
    ap (list_all (is_visible all node)) are
    ∙ all_pass (is_visible all node) (number_of ps (is_seen_at node.number node.home)) (start_names o) (start_visible ps all node names) (sym (ap has_unknown are) ∙ h)

pub ends_visible : (ps : List Place) (all : List Node) (node : Node) (o : TreeOp) → AreNamed ps all
    → node.op ≡ numbered (number_of ps (is_seen_at node.number node.home)) (number_of ps (is_seen_at_end node.number)) o
    → has_unknown (end_references node.op) ≡ false → list_all (is_visible_at_end all node) (end_references node.op) ≡ true
ends_visible ps all node o names is h =
    let are : end_references node.op ≡ map (number_of ps (is_seen_at_end node.number)) (end_names o) = ap end_references is ∙ end_numbers _ _ o in
    ap (list_all (is_visible_at_end all node)) are
    ∙ all_pass (is_visible_at_end all node) (number_of ps (is_seen_at_end node.number)) (end_names o) (end_visible ps all node names) (sym (ap has_unknown are) ∙ h)
