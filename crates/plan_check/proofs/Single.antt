-- No name of checked nodes stands twice.
use Rattle.std.proofs.Common.{◌≡◌, ℕ, ◌<◌, ◌≤◌, Bool, true, false, cond, not, ◌&&◌, ◌||◌, ◌==◌, List, [], ◌∷◌, ◌++◌, map, refl, sym, ap, ◌∙◌, subst, arith, suc, append_assoc, Some}
use Rattle.std.specs.List.{flat_map, list_all, list_any}
use Rattle.std.specs.Str.{bytes_eq}
use Rattle.std.specs.Prelude.{nat_lt, All}
use Rattle.std.proofs.lemmas.Bool.Decides.{nat_tests}
use Rattle.std.proofs.lemmas.Slice.Eq.{bytes_eq-Decides}
use Rattle.std.proofs.lemmas.List.Elements.{All-nil, All-cons, All-head, All-tail, All-append, All-weaker}
use Rattle.flow_types.proofs.ValueLemmas.{both_true, both_pass}
use Rattle.flow_model.specs.declared.plan.Node.{Node}
use Rattle.flow_model.specs.Rules.{bind_names, names_in, are_different}
use Rattle.plan_text.specs.declared.tree.TreeOp.{TreeOp}
use Rattle.plan_text.specs.declared.tree.TreeOp.TheVariants as tree
use Rattle.plan_text.specs.declared.tree.TreeNode.{TreeNode}
use Rattle.plan_check.specs.Places.{Place, binds_of, places_of, places, place_at, is_earlier, stands_before}
use Rattle.plan_check.specs.Numbering.{numbered}
use Rattle.plan_check.specs.Trees.{are_numbered}
use Rattle.plan_check.proofs.Follow.{Follows}
use Rattle.plan_check.proofs.Numbers.{equal_numbers}

-- ---- bytes

bytes_are : (xs ys : List ℕ) → bytes_eq xs ys ≡ true → xs ≡ ys
bytes_are xs ys e = (bytes_eq-Decides xs ys).0 e

bytes-self : (xs : List ℕ) → bytes_eq xs xs ≡ true
bytes-self xs = (bytes_eq-Decides xs xs).1 refl

bytes_apart : (xs ys : List ℕ) → bytes_eq xs ys ≡ false → bytes_eq ys xs ≡ false
bytes_apart xs ys h = go (bytes_eq ys xs) refl
  where
    go : (b : Bool) → bytes_eq ys xs ≡ b → b ≡ false
    go false e = refl
    go true e = let same : bytes_eq xs ys ≡ true = ap (λ zs. bytes_eq xs zs) (bytes_are ys xs e) ∙ bytes-self xs in cc

-- ---- what a node that is no duplicate says

neither : (a b : Bool) → (a || b) ≡ false → (a ≡ false) × (b ≡ false)
neither true b h = cc
neither false b h = (refl, h)

binds_same : (start end : List ℕ → ℕ) (o : TreeOp) → bind_names (numbered start end o) ≡ binds_of o
binds_same start end (tree.Source fields delimiter) = refl
binds_same start end (tree.Map input columns) = refl
binds_same start end (tree.Filter input test) = refl
binds_same start end (tree.FlatMap input rows) = refl
binds_same start end (tree.Union names) = refl
binds_same start end (tree.Distinct input) = refl
binds_same start end (tree.Group input key aggs combine) = refl
binds_same start end (tree.Top input key order count) = refl
binds_same start end (tree.Join left right left_key right_key columns kind left_default right_default) = refl
binds_same start end (tree.Cogroup left right left_key right_key left_aggs right_aggs) = refl
binds_same start end (tree.Bulk init bind most next until) = refl
binds_same start end (tree.Delta solution workset bind key order merge most delta next) = refl
binds_same start end (tree.Probe input key columns) = refl

-- an op brings no bind name, or one
data AtMostOne (names : List (List ℕ)) : Type 0 where
  none : names ≡ [] → AtMostOne names
  single : (name : List ℕ) → names ≡ name ∷ [] → AtMostOne names

at_most_one : (o : TreeOp) → AtMostOne (binds_of o)
at_most_one (tree.Source fields delimiter) = none refl
at_most_one (tree.Map input columns) = none refl
at_most_one (tree.Filter input test) = none refl
at_most_one (tree.FlatMap input rows) = none refl
at_most_one (tree.Union names) = none refl
at_most_one (tree.Distinct input) = none refl
at_most_one (tree.Group input key aggs combine) = none refl
at_most_one (tree.Top input key order count) = none refl
at_most_one (tree.Join left right left_key right_key columns kind left_default right_default) = none refl
at_most_one (tree.Cogroup left right left_key right_key left_aggs right_aggs) = none refl
at_most_one (tree.Bulk init bind most next until) = single bind refl
at_most_one (tree.Delta solution workset bind key order merge most delta next) = single bind refl
at_most_one (tree.Probe input key columns) = none refl

-- ---- names that stand before

-- a name has its first place at a node of this number or before
abbrev pub StandsBy : List Place → ℕ → List ℕ → Type 0
StandsBy ps k name = (p : Place) × ((place_at ps name ≡ Some p) × (p.number ≤ k))

first_at : (front : List Place) (q : Place) (rest : List Place) (k : ℕ) (name : List ℕ) → All (λ (p : Place). p.number ≤ k) front → q.number ≤ k → bytes_eq q.name name ≡ true
    → StandsBy (front ++ q ∷ rest) k name
first_at [] q rest k name low here e = (q, (ap (λ b. cond b (Some q) (place_at rest name)) e, here))
first_at (p ∷ front) q rest k name low here e = go (bytes_eq p.name name) refl (first_at front q rest k name (All-tail (λ (p : Place). p.number ≤ k) p front low) here e)
  where
    go : (b : Bool) → bytes_eq p.name name ≡ b → StandsBy (front ++ q ∷ rest) k name → StandsBy (p ∷ front ++ q ∷ rest) k name
    go true f later = (p, (ap (λ b. cond b (Some p) (place_at (front ++ q ∷ rest) name)) f, All-head (λ (p : Place). p.number ≤ k) p front low))
    go false f later = (later.0, (ap (λ b. cond b (Some p) (place_at (front ++ q ∷ rest) name)) f ∙ later.1.0, later.1.1))

before_of : (m k n : ℕ) → m ≤ k → k < n → nat_lt m n ≡ true
before_of m k n low high = grind (arith, nat_tests)

-- a name that stands by a number isn't one that stands before no node above it
other_name : (ps : List Place) (k n : ℕ) (x y : List ℕ) → StandsBy ps k x → k < n → stands_before ps n y ≡ false → not (bytes_eq x y) ≡ true
other_name ps k n x y by high free = go (bytes_eq x y) refl
  where
    go : (b : Bool) → bytes_eq x y ≡ b → not b ≡ true
    go false e = refl
    go true e =
        let at : place_at ps y ≡ Some by.0 = ap (place_at ps) (sym (bytes_are x y e)) ∙ by.1.0 in
        let earlier : stands_before ps n y ≡ true = ap (is_earlier n) at ∙ before_of by.0.number k n by.1.1 high in
        cc

not_in : (ps : List Place) (k n : ℕ) (x : List ℕ) (name : List ℕ) (binds : List (List ℕ)) → StandsBy ps k x → k < n
    → (stands_before ps n name || list_any (λ bind. stands_before ps n bind || bytes_eq bind name) binds) ≡ false → (rest : List (List ℕ))
    → list_all (λ other. not (bytes_eq x other)) rest ≡ true → list_all (λ other. not (bytes_eq x other)) (name ∷ binds ++ rest) ≡ true
not_in ps k n x name binds by high free rest later =
    let one = neither (stands_before ps n name) (list_any (λ bind. stands_before ps n bind || bytes_eq bind name) binds) free in
    both_pass (not (bytes_eq x name)) (list_all (λ other. not (bytes_eq x other)) (binds ++ rest)) (other_name ps k n x name by high one.0) (go binds one.1)
  where
    go : (bs : List (List ℕ)) → list_any (λ bind. stands_before ps n bind || bytes_eq bind name) bs ≡ false → list_all (λ other. not (bytes_eq x other)) (bs ++ rest) ≡ true
    go [] h = later
    go (b ∷ bs) h =
        let here = neither (stands_before ps n b || bytes_eq b name) (list_any (λ bind. stands_before ps n bind || bytes_eq bind name) bs) h in
        let free_b = neither (stands_before ps n b) (bytes_eq b name) here.0 in
        both_pass (not (bytes_eq x b)) (list_all (λ other. not (bytes_eq x other)) (bs ++ rest)) (other_name ps k n x b by high free_b.0) (go bs here.1)

above_same : (k k2 m n : ℕ) → k < k2 → m ≡ n → n ≡ k2 → k < m
above_same k k2 m n h e f = omega (arith, h, e, f)

-- no later node brings a name that stands by a number
later_names : (ps : List Place) (done all : List Node) (k next : ℕ) (ts : List TreeNode) (ns : List Node) (x : List ℕ) → Follows ps done all ts ns → are_numbered next ts ≡ true → k < next
    → StandsBy ps k x → list_all (λ other. not (bytes_eq x other)) (flat_map names_in ns) ≡ true
later_names ps done all k next [] [] x f numbers high by = refl
later_names ps done all k next [] (n ∷ ns) x f numbers high by = absurd f
later_names ps done all k next (t ∷ ts) [] x f numbers high by = absurd f
later_names ps done all k next (t ∷ ts) (n ∷ ns) x f numbers high by =
    let number = both_true (t.number == next) (are_numbered (suc next) ts) numbers in
    not_in ps k n.number x n.name (bind_names n.op) by (above_same k next n.number t.number high f.0.0.number (equal_numbers t.number next number.0)) f.0.1.single (flat_map names_in ns)
    (later_names ps (done ++ n ∷ []) all k (suc next) ts ns x f.1.1 number.1 (omega arith) by)

at_most : (k m n : ℕ) → m ≡ n → n ≡ k → m ≤ k
at_most k m n e f = omega (arith, e, f)

lower : (k : ℕ) (front : List Place) → All (λ (p : Place). p.number < k) front → All (λ (p : Place). p.number ≤ k) front
lower k front h = All-weaker (λ (p : Place). p.number < k) (λ (p : Place). p.number ≤ k) (λ p low. omega arith) front h

pub names_differ : (ps front : List Place) (done all : List Node) (k : ℕ) (ts : List TreeNode) (ns : List Node) → Follows ps done all ts ns → are_numbered k ts ≡ true
    → ps ≡ front ++ places ts → All (λ (p : Place). p.number < k) front → are_different (flat_map names_in ns) ≡ true
names_differ ps front done all k [] [] f numbers parts low = refl
names_differ ps front done all k [] (n ∷ ns) f numbers parts low = absurd f
names_differ ps front done all k (t ∷ ts) [] f numbers parts low = absurd f
names_differ ps front done all k (t ∷ ts) (n ∷ ns) f numbers parts low =
    let number = both_true (t.number == k) (are_numbered (suc k) ts) numbers in
    let here = equal_numbers t.number k number.0 in
    by here number.1 (at_most_one t.op)
    (λ more only. names_differ ps (front ++ places_of t) (done ++ n ∷ []) all (suc k) ts ns f.1.1 number.1 (parts ∙ sym (append_assoc front (places_of t) (places ts))) more)
  where
    binds : bind_names n.op ≡ binds_of t.op
    binds = ap bind_names f.0.0.op ∙ binds_same _ _ t.op

    places_below : t.number ≡ k → AtMostOne (binds_of t.op) → All (λ (p : Place). p.number < suc k) (front ++ places_of t)
    places_below here one =
        All-append (λ (p : Place). p.number < suc k) front (places_of t)
        (All-weaker (λ (p : Place). p.number < k) (λ (p : Place). p.number < suc k) (λ p l. omega arith) front low)
        (All-cons (λ (p : Place). p.number < suc k) (record { name = t.name; number = t.number; home = t.home }) (map (λ bind. record { name = bind; number = t.number; home = t.number }) (binds_of t.op)) (omega (arith, here)) (among one))
      where
        among : AtMostOne (binds_of t.op) → All (λ (p : Place). p.number < suc k) (map (λ bind. record { name = bind; number = t.number; home = t.number }) (binds_of t.op))
        among (none e) = subst (λ bs. All (λ (p : Place). p.number < suc k) (map (λ bind. record { name = bind; number = t.number; home = t.number }) bs)) (sym e) (All-nil (λ (p : Place). p.number < suc k))
        among (single b e) =
            subst (λ bs. All (λ (p : Place). p.number < suc k) (map (λ bind. record { name = bind; number = t.number; home = t.number }) bs)) (sym e)
            (All-cons (λ (p : Place). p.number < suc k) (record { name = b; number = t.number; home = t.number }) [] (omega (arith, here)) (All-nil (λ (p : Place). p.number < suc k)))

    own_by : t.number ≡ k → StandsBy ps k n.name
    own_by here =
        subst (λ qs. StandsBy qs k n.name) (sym parts)
        (first_at front (record { name = t.name; number = t.number; home = t.home }) (map (λ bind. record { name = bind; number = t.number; home = t.number }) (binds_of t.op) ++ places ts) k n.name (lower k front low) (omega (arith, here))
        (ap (λ name. bytes_eq name n.name) (sym f.0.0.name) ∙ bytes-self n.name))

    bind_parts : (b : List ℕ) → binds_of t.op ≡ b ∷ [] → ps ≡ (front ++ record { name = t.name; number = t.number; home = t.home } ∷ []) ++ record { name = b; number = t.number; home = t.number } ∷ places ts
    bind_parts b e =
        let step : front ++ (places_of t ++ places ts) ≡ front ++ (record { name = t.name; number = t.number; home = t.home } ∷ record { name = b; number = t.number; home = t.number } ∷ places ts) =
        ap (λ bs. front ++ (record { name = t.name; number = t.number; home = t.home } ∷ map (λ bind. record { name = bind; number = t.number; home = t.number }) bs ++ places ts)) e in
        let split : (front ++ record { name = t.name; number = t.number; home = t.home } ∷ []) ++ record { name = b; number = t.number; home = t.number } ∷ places ts
        ≡ front ++ (record { name = t.name; number = t.number; home = t.home } ∷ record { name = b; number = t.number; home = t.number } ∷ places ts) =
        append_assoc front (record { name = t.name; number = t.number; home = t.home } ∷ []) (record { name = b; number = t.number; home = t.number } ∷ places ts) in
        parts ∙ step ∙ sym split

    bind_by : t.number ≡ k → (b : List ℕ) → binds_of t.op ≡ b ∷ [] → StandsBy ps k b
    bind_by here b e =
        subst (λ qs. StandsBy qs k b) (sym (bind_parts b e))
        (first_at (front ++ record { name = t.name; number = t.number; home = t.home } ∷ []) (record { name = b; number = t.number; home = t.number }) (places ts) k b
        (All-append (λ (p : Place). p.number ≤ k) front (record { name = t.name; number = t.number; home = t.home } ∷ []) (lower k front low)
        (All-cons (λ (p : Place). p.number ≤ k) (record { name = t.name; number = t.number; home = t.home }) [] (omega (arith, here)) (All-nil (λ (p : Place). p.number ≤ k))))
        (omega (arith, here)) (bytes-self b))

    others : t.number ≡ k → are_numbered (suc k) ts ≡ true → (x : List ℕ) → StandsBy ps k x → list_all (λ other. not (bytes_eq x other)) (flat_map names_in ns) ≡ true
    others here number x standing = later_names ps (done ++ n ∷ []) all k (suc k) ts ns x f.1.1 number (omega arith) standing

    apart : (b : List ℕ) → binds_of t.op ≡ b ∷ [] → not (bytes_eq n.name b) ≡ true
    apart b e =
        let free : (stands_before ps n.number n.name || list_any (λ bind. stands_before ps n.number bind || bytes_eq bind n.name) (b ∷ [])) ≡ false =
        ap (λ bs. stands_before ps n.number n.name || list_any (λ bind. stands_before ps n.number bind || bytes_eq bind n.name) bs) (sym (binds ∙ e)) ∙ f.0.1.single in
        let bind = neither (stands_before ps n.number n.name) (list_any (λ bind. stands_before ps n.number bind || bytes_eq bind n.name) (b ∷ [])) free in
        let one = neither (stands_before ps n.number b || bytes_eq b n.name) false bind.1 in
        let two = neither (stands_before ps n.number b) (bytes_eq b n.name) one.0 in
        ap not (bytes_apart b n.name two.1)

    by : t.number ≡ k → are_numbered (suc k) ts ≡ true → AtMostOne (binds_of t.op) → (All (λ (p : Place). p.number < suc k) (front ++ places_of t) → Unit {0} → are_different (flat_map names_in ns) ≡ true)
        → are_different (n.name ∷ bind_names n.op ++ flat_map names_in ns) ≡ true
    by here number (none e) later =
        ap (λ bs. are_different (n.name ∷ bs ++ flat_map names_in ns)) (binds ∙ e)
        ∙ both_pass (list_all (λ other. not (bytes_eq n.name other)) (flat_map names_in ns)) (are_different (flat_map names_in ns)) (others here number n.name (own_by here)) (later (places_below here (none e)) tt)
    by here number (single b e) later =
        ap (λ bs. are_different (n.name ∷ bs ++ flat_map names_in ns)) (binds ∙ e)
        ∙ both_pass (not (bytes_eq n.name b) && list_all (λ other. not (bytes_eq n.name other)) (flat_map names_in ns)) (list_all (λ other. not (bytes_eq b other)) (flat_map names_in ns) && are_different (flat_map names_in ns))
        (both_pass (not (bytes_eq n.name b)) (list_all (λ other. not (bytes_eq n.name other)) (flat_map names_in ns)) (apart b e) (others here number n.name (own_by here)))
        (both_pass (list_all (λ other. not (bytes_eq b other)) (flat_map names_in ns)) (are_different (flat_map names_in ns)) (others here number b (bind_by here b e)) (later (places_below here (single b e)) tt))
