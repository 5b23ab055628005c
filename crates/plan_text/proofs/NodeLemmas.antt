-- How many nodes there are, and what is read of one list after another.
use Rattle.std.proofs.Common.{◌<◌, ◌≤◌, drop, map, get_or, Bool, true, false, if◌then◌else◌, ◌≡◌, ℕ, zero, suc, ◌+◌, ◌-◌, List, [], ◌∷◌, ◌++◌, length, Option, Some, None, Result, Ok, Err, Vec, Global, vec_len, refl, sym, ap, ◌∙◌, arith, append_assoc, length-append}
use Rattle.std.specs.Prelude.{nat_le, nat_lt, not, is_some, is_none}
use Rattle.std.proofs.lemmas.Bool.Decides.{nat_tests}
use Rattle.std.proofs.lemmas.List.{at_drop_more, at_drop_all}
use Rattle.serde_json.specs.Data.{Data}
use Rattle.serde_json.specs.View.{view}
use Rattle.serde_json.specs.declared.value.Value.{Value}
use Rattle.plan_text.specs.declared.tree.TreeNode.{TreeNode}
use Rattle.plan_text.specs.declared.fault.PlanFault.{PlanFault}
use Rattle.plan_text.specs.declared.fault.PlanFault.TheVariants as fault
use Rattle.plan_text.specs.Nodes.{Placed, node_in, body_of, alone, placed_with, placed_up_to, count_with, count_up_to, left_after, told_at, before, nodes_of}
use Rattle.plan_text.specs.Told.{IsFault}

-- ---- lists in lists

pub deeper : (depth home n : ℕ) (ds : List Data) → placed_up_to (suc depth) home n ds ≡ placed_with (placed_up_to depth) home n ds
unfolding placed_up_to
deeper depth home n ds = refl

pub no_deeper : (home n : ℕ) (ds : List Data) → placed_up_to 0 home n ds ≡ []
unfolding placed_up_to
no_deeper home n ds = refl

pub count_deeper : (depth : ℕ) (ds : List Data) → count_up_to (suc depth) ds ≡ count_with (count_up_to depth) ds
unfolding count_up_to
count_deeper depth ds = refl

pub count_none : (ds : List Data) → count_up_to 0 ds ≡ 0
unfolding count_up_to
count_none ds = refl

length-with : (inner : ℕ → ℕ → List Data → List Placed) (count : List Data → ℕ) → ((home n : ℕ) (ds : List Data) → length (inner home n ds) ≡ count ds)
    → (home n : ℕ) (ds : List Data) → length (placed_with inner home n ds) ≡ count_with count ds
length-with inner count same home n [] = refl
length-with inner count same home n (d ∷ ds) =
    let body = inner n (n + 1) (body_of d) in
    let here = same n (n + 1) (body_of d) in
    let rest = length-with inner count same home (n + 1 + length body) ds in
    omega (arith, length-append body (placed_with inner home (n + 1 + length body) ds))

-- how many nodes there are
pub length-placed : (depth home n : ℕ) (ds : List Data) → length (placed_up_to depth home n ds) ≡ count_up_to depth ds
length-placed zero home n ds = ap length (no_deeper home n ds) ∙ sym (count_none ds)
length-placed (suc depth) home n ds =
    ap length (deeper depth home n ds) ∙ length-with (placed_up_to depth) (count_up_to depth) (length-placed depth) home n ds ∙ sym (count_deeper depth ds)

-- nodes that are read already, before what is read of the rest
abbrev pub onto : List TreeNode → Result (List TreeNode) PlanFault → Result (List TreeNode) PlanFault
onto done (Err f) = Err f
onto done (Ok rest) = Ok (done ++ rest)

pub onto-none : (r : Result (List TreeNode) PlanFault) → r ≡ onto [] r
onto-none (Err f) = refl
onto-none (Ok rest) = refl

onto-append : (done more : List TreeNode) (r : Result (List TreeNode) PlanFault) → onto done (onto more r) ≡ onto (done ++ more) r
onto-append done more (Err f) = refl
onto-append done more (Ok rest) = ap Ok (sym (append_assoc done more rest))

-- what is read of one list, and then of another
abbrev pub joined : Result (List TreeNode) PlanFault → Result (List TreeNode) PlanFault → Result (List TreeNode) PlanFault
joined (Err f) r = Err f
joined (Ok nodes) r = onto nodes r

before-joined : (t : Result TreeNode PlanFault) (a b : Result (List TreeNode) PlanFault) → before t (joined a b) ≡ joined (before t a) b
before-joined (Err f) a b = refl
before-joined (Ok node) (Err f) b = refl
before-joined (Ok node) (Ok nodes) (Err f) = refl
before-joined (Ok node) (Ok nodes) (Ok rest) = refl

nodes_of-append : (ps qs : List Placed) → nodes_of (ps ++ qs) ≡ joined (nodes_of ps) (nodes_of qs)
nodes_of-append [] qs = onto-none (nodes_of qs)
nodes_of-append (p ∷ ps) qs =
    let t = told_at p.number (node_in p.number p.home p.json) in
    ap (before t) (nodes_of-append ps qs) ∙ before-joined t (nodes_of ps) (nodes_of qs)

-- as many nodes are read as stand there
length-before : (t : Result TreeNode PlanFault) (r : Result (List TreeNode) PlanFault) (ts : List TreeNode) (n : ℕ) → ((us : List TreeNode) → r ≡ Ok us → length us ≡ n)
    → before t r ≡ Ok ts → length ts ≡ suc n
length-before (Err f) r ts n later e = cc
length-before (Ok node) (Err f) ts n later e = cc
length-before (Ok node) (Ok us) ts n later e =
    let same : node ∷ us ≡ ts = cc in
    ap length (sym same) ∙ ap suc (later us refl)

pub length-nodes_of : (ps : List Placed) (ts : List TreeNode) → nodes_of ps ≡ Ok ts → length ts ≡ length ps
length-nodes_of [] ts e = let same : [] ≡ ts = cc in ap length (sym same)
length-nodes_of (p ∷ ps) ts e = length-before (told_at p.number (node_in p.number p.home p.json)) (nodes_of ps) ts (length ps) (length-nodes_of ps) e

-- a node, its body and the rest
nodes_of-three : (p : Placed) (body rest : List Placed) → nodes_of (p ∷ body ++ rest) ≡ joined (nodes_of (p ∷ [])) (joined (nodes_of body) (nodes_of rest))
nodes_of-three p body rest =
    nodes_of-append (p ∷ []) (body ++ rest) ∙ ap (joined (nodes_of (p ∷ []))) (nodes_of-append body rest)

-- the first of what is left of a list
here : {Y : Type 0} (F : List Value → Y) (xs : List Value) (i : ℕ) (v : Value) → i < length xs → v ≡ get_or xs i v → F (drop i xs) ≡ F (v ∷ drop (i + 1) xs)
here F xs i v h is = at_drop_more F xs i v h ∙ ap (λ x. F (x ∷ drop (i + 1) xs)) (sym is)

-- what is read of a list from an item on
list_step : (inner : ℕ → ℕ → List Data → List Placed) (home n : ℕ) (items : List Value) (i : ℕ) (v : Value) → i < length items → v ≡ get_or items i v
    → nodes_of (placed_with inner home n (map view (drop i items)))
    ≡ joined (nodes_of (alone n home (view v))) (joined (nodes_of (inner n (n + 1) (body_of (view v))))
    (nodes_of (placed_with inner home (n + 1 + length (inner n (n + 1) (body_of (view v)))) (map view (drop (i + 1) items)))))
list_step inner home n items i v h is =
    here (λ vs. nodes_of (placed_with inner home n (map view vs))) items i v h is
    ∙ nodes_of-three (record { number = n; home = home; json = view v }) (inner n (n + 1) (body_of (view v)))
    (placed_with inner home (n + 1 + length (inner n (n + 1) (body_of (view v)))) (map view (drop (i + 1) items)))

-- one more item of a list, with its body
pub list_more : (inner : ℕ → ℕ → List Data → List Placed) (home n k : ℕ) (items : List Value) (i : ℕ) (v : Value) (done one two : List TreeNode) (r : Result (List TreeNode) PlanFault)
    → i < length items → v ≡ get_or items i v
    → nodes_of (alone n home (view v)) ≡ Ok one → nodes_of (inner n (n + 1) (body_of (view v))) ≡ Ok two
    → n + 1 + length (inner n (n + 1) (body_of (view v))) ≡ k
    → r ≡ onto done (nodes_of (placed_with inner home n (map view (drop i items))))
    → r ≡ onto ((done ++ one) ++ two) (nodes_of (placed_with inner home k (map view (drop (i + 1) items))))
list_more inner home n k items i v done one two r h is first body next e =
    let ds = map view (drop (i + 1) items) in
    let rest = nodes_of (placed_with inner home (n + 1 + length (inner n (n + 1) (body_of (view v)))) ds) in
    e ∙ ap (onto done) (list_step inner home n items i v h is ∙ ap (λ a. joined a (joined (nodes_of (inner n (n + 1) (body_of (view v)))) rest)) first
    ∙ ap (λ b. onto one (joined b rest)) body)
    ∙ onto-append done one (onto two rest) ∙ onto-append (done ++ one) two rest
    ∙ ap (λ m. onto ((done ++ one) ++ two) (nodes_of (placed_with inner home m ds))) next

-- a fault of an item
pub item_fault : (inner : ℕ → ℕ → List Data → List Placed) (home n : ℕ) (items : List Value) (i : ℕ) (v : Value) (done : List TreeNode) (f : PlanFault) (r : Result (List TreeNode) PlanFault)
    → i < length items → v ≡ get_or items i v
    → r ≡ onto done (nodes_of (placed_with inner home n (map view (drop i items))))
    → nodes_of (alone n home (view v)) ≡ Err f → r ≡ Err f
item_fault inner home n items i v done f r h is e first =
    let rest = nodes_of (placed_with inner home (n + 1 + length (inner n (n + 1) (body_of (view v)))) (map view (drop (i + 1) items))) in
    e ∙ ap (onto done) (list_step inner home n items i v h is ∙ ap (λ a. joined a (joined (nodes_of (inner n (n + 1) (body_of (view v)))) rest)) first)

-- a fault in an item's body
pub body_fault : (inner : ℕ → ℕ → List Data → List Placed) (home n : ℕ) (items : List Value) (i : ℕ) (v : Value) (done one : List TreeNode) (f : PlanFault) (r : Result (List TreeNode) PlanFault)
    → i < length items → v ≡ get_or items i v
    → r ≡ onto done (nodes_of (placed_with inner home n (map view (drop i items))))
    → nodes_of (alone n home (view v)) ≡ Ok one → nodes_of (inner n (n + 1) (body_of (view v))) ≡ Err f → r ≡ Err f
body_fault inner home n items i v done one f r h is e first body =
    let rest = nodes_of (placed_with inner home (n + 1 + length (inner n (n + 1) (body_of (view v)))) (map view (drop (i + 1) items))) in
    e ∙ ap (onto done) (list_step inner home n items i v h is ∙ ap (λ a. joined a (joined (nodes_of (inner n (n + 1) (body_of (view v)))) rest)) first
    ∙ ap (λ b. onto one (joined b rest)) body)

-- a fault that is handed on
pub IsFault-on : {A B : Type 0} (f : PlanFault) (given : Result A PlanFault) (r : Result B PlanFault) → IsFault f given → (given ≡ Err f → r ≡ Err f) → IsFault f r
IsFault-on fault.Memory given r h k = tt
IsFault-on (fault.Refused node code) given r h k = k h

-- ---- how many nodes may still come

le_true : (m n : ℕ) → m ≤ n → nat_le m n ≡ true
le_true m n h = grind (arith, nat_tests)

le_false : (m n : ℕ) → n < m → nat_le m n ≡ false
le_false m n h = grind (arith, nat_tests)

le_of : (m n : ℕ) → nat_le m n ≡ true → m ≤ n
le_of m n h = grind (arith, nat_tests)

lt_of : (m n : ℕ) → nat_le m n ≡ false → n < m
lt_of m n h = grind (arith, nat_tests)

lt_true : (m n : ℕ) → m < n → nat_lt m n ≡ true
lt_true m n h = grind (arith, nat_tests)

lt_false : (m n : ℕ) → n ≤ m → nat_lt m n ≡ false
lt_false m n h = grind (arith, nat_tests)

-- where all may come
left_within : (left count after : ℕ) → count ≤ left → left - count ≡ after → left_after left count ≡ Some after
left_within left count after within is = ap (λ b. if b then Some (left - count) else None) (le_true count left within) ∙ ap Some is

-- where there are more
left_past : (left count : ℕ) → left < count → left_after left count ≡ None
left_past left count past = ap (λ b. if b then Some (left - count) else None) (le_false count left past)

pub left_all : (left : ℕ) → left_after left 0 ≡ Some left
left_all left = left_within left 0 left (omega arith) (omega arith)

left_some : (left count after : ℕ) → left_after left count ≡ Some after → (count ≤ left) × (left - count ≡ after)
left_some left count after e = go (nat_le count left) refl e
  where
    go : (b : Bool) → nat_le count left ≡ b → (if b then Some (left - count) else None) ≡ Some after → (count ≤ left) × (left - count ≡ after)
    go true within k = let same : left - count ≡ after = cc in (le_of count left within, same)
    go false past k = cc

left_none : (left count : ℕ) → left_after left count ≡ None → left < count
left_none left count e = go (nat_le count left) refl e
  where
    go : (b : Bool) → nat_le count left ≡ b → (if b then Some (left - count) else None) ≡ None → left < count
    go true within k = cc
    go false past k = lt_of count left past

-- one node, its body and the rest, where the node's place and the body's may be taken
left_on : (left after body rest : ℕ) → 0 < left → left_after (left - 1) body ≡ Some after → left_after left (1 + body + rest) ≡ left_after after rest
left_on left after body rest some e = go (nat_le rest after) refl (left_some (left - 1) body after e)
  where
    go : (b : Bool) → nat_le rest after ≡ b → (body ≤ left - 1) × (left - 1 - body ≡ after) → left_after left (1 + body + rest) ≡ left_after after rest
    go true within s =
        let low : rest ≤ after = le_of rest after within in
        left_within left (1 + body + rest) (after - rest) (omega (arith, s.0, s.1)) (omega (arith, s.0, s.1)) ∙ sym (left_within after rest (after - rest) low refl)
    go false past s =
        let high : after < rest = lt_of rest after past in
        left_past left (1 + body + rest) (omega (arith, s.0, s.1)) ∙ sym (left_past after rest high)

-- what is counted of a list from an item on
pub count_step : (inner : List Data → ℕ) (items : List Value) (i : ℕ) (v : Value) → i < length items → v ≡ get_or items i v
    → count_with inner (map view (drop i items)) ≡ 1 + inner (body_of (view v)) + count_with inner (map view (drop (i + 1) items))
count_step inner items i v h is = here (λ vs. count_with inner (map view vs)) items i v h is

-- a list that is opened
pub count_opened : (depth : ℕ) (ds : List Data) → 0 < depth → count_up_to depth ds ≡ count_with (count_up_to (depth - 1)) ds
count_opened depth ds some = let is : depth ≡ suc (depth - 1) = omega arith in ap (λ d. count_up_to d ds) is ∙ count_deeper (depth - 1) ds

pub placed_opened : (depth home n : ℕ) (ds : List Data) → 0 < depth → placed_up_to depth home n ds ≡ placed_with (placed_up_to (depth - 1)) home n ds
placed_opened depth home n ds some = let is : depth ≡ suc (depth - 1) = omega arith in ap (λ d. placed_up_to d home n ds) is ∙ deeper (depth - 1) home n ds

-- one item more, and so many nodes may still come
pub left_more : (inner : List Data → ℕ) (all : Option ℕ) (items : List Value) (i : ℕ) (v : Value) (left after body : ℕ) → i < length items → v ≡ get_or items i v
    → 0 < left → inner (body_of (view v)) ≡ body → left_after (left - 1) body ≡ Some after
    → all ≡ left_after left (count_with inner (map view (drop i items))) → all ≡ left_after after (count_with inner (map view (drop (i + 1) items)))
left_more inner all items i v left after body h is some counted e all_is =
    let rest = count_with inner (map view (drop (i + 1) items)) in
    all_is ∙ ap (left_after left) (count_step inner items i v h is) ∙ ap (λ b. left_after left (1 + b + rest)) counted ∙ left_on left after body rest some e

-- one item more, and there are too many
pub left_ends : (inner : List Data → ℕ) (all : Option ℕ) (items : List Value) (i : ℕ) (v : Value) (left : ℕ) → i < length items → v ≡ get_or items i v
    → left ≡ 0 → all ≡ left_after left (count_with inner (map view (drop i items))) → all ≡ None
left_ends inner all items i v left h is none all_is =
    let rest = count_with inner (map view (drop (i + 1) items)) in
    all_is ∙ ap (left_after left) (count_step inner items i v h is) ∙ left_past left (1 + inner (body_of (view v)) + rest) (omega (arith, none))

-- a body has too many
pub left_ends_within : (inner : List Data → ℕ) (all : Option ℕ) (items : List Value) (i : ℕ) (v : Value) (left body : ℕ) → i < length items → v ≡ get_or items i v
    → 0 < left → inner (body_of (view v)) ≡ body → left_after (left - 1) body ≡ None
    → all ≡ left_after left (count_with inner (map view (drop i items))) → all ≡ None
left_ends_within inner all items i v left body h is some counted e all_is =
    let rest = count_with inner (map view (drop (i + 1) items)) in
    let past : left - 1 < body = left_none (left - 1) body e in
    all_is ∙ ap (left_after left) (count_step inner items i v h is) ∙ ap (λ b. left_after left (1 + b + rest)) counted ∙ left_past left (1 + body + rest) (omega (arith, past))

-- behind the last item
pub left_behind : (inner : List Data → ℕ) (all : Option ℕ) (items : List Value) (i left : ℕ) → length items ≤ i
    → all ≡ left_after left (count_with inner (map view (drop i items))) → all ≡ Some left
left_behind inner all items i left h all_is = all_is ∙ at_drop_all (λ vs. left_after left (count_with inner (map view vs))) items i h ∙ left_all left

-- no more may come exactly where there are too many
pub none_where_past : (left count : ℕ) → is_none (left_after left count) ≡ nat_lt left count
none_where_past left count = go (nat_le count left) refl
  where
    go : (b : Bool) → nat_le count left ≡ b → is_none (left_after left count) ≡ nat_lt left count
    go true within =
        let low : count ≤ left = le_of count left within in
        ap is_none (left_within left count (left - count) low refl) ∙ sym (lt_false left count low)
    go false past =
        let high : left < count = lt_of count left past in
        ap is_none (left_past left count high) ∙ sym (lt_true left count high)

-- a test for nothing
pub not_some : (r : Bool) (o : Option ℕ) → not r ≡ is_some o → r ≡ is_none o
not_some true None e = refl
not_some true (Some n) e = cc
not_some false None e = cc
not_some false (Some n) e = refl

-- ---- one item of a list that is read, and its body

-- what is read of the body of the item of a number, whose nodes follow it
of_body : (depth n next : ℕ) (v : Value) (body : List Value) (r : Result (List TreeNode) PlanFault) → map view body ≡ body_of (view v) → next ≡ n + 1
    → nodes_of (placed_up_to depth n next (map view body)) ≡ r → nodes_of (placed_up_to depth n (n + 1) (body_of (view v))) ≡ r
of_body depth n next v body r seen same e =
    ap (λ m. nodes_of (placed_up_to depth n m (body_of (view v)))) (sym same) ∙ ap (λ ds. nodes_of (placed_up_to depth n next ds)) (sym seen) ∙ e

-- one item more
pub read_more : (depth home : ℕ) (items : List Value) (i : ℕ) (v : Value) (body : List Value) (len mid next : ℕ) (done one two : List TreeNode) (r : Result (List TreeNode) PlanFault)
    → i < length items → v ≡ get_or items i v → map view body ≡ body_of (view v)
    → nodes_of (alone (len + 1) home (view v)) ≡ Ok one → nodes_of (placed_up_to depth (len + 1) (mid + 1) (map view body)) ≡ Ok two
    → mid ≡ len + length one → next ≡ mid + length two
    → r ≡ onto done (nodes_of (placed_with (placed_up_to depth) home (len + 1) (map view (drop i items))))
    → r ≡ onto ((done ++ one) ++ two) (nodes_of (placed_with (placed_up_to depth) home (next + 1) (map view (drop (i + 1) items))))
read_more depth home items i v body len mid next done one two r h is seen first second grown more e =
    let single : length one ≡ 1 = length-nodes_of (alone (len + 1) home (view v)) one first in
    let inner : nodes_of (placed_up_to depth (len + 1) (len + 1 + 1) (body_of (view v))) ≡ Ok two = of_body depth (len + 1) (mid + 1) v body (Ok two) seen (omega (arith, grown, single)) second in
    let long : length two ≡ length (placed_up_to depth (len + 1) (len + 1 + 1) (body_of (view v))) = length-nodes_of (placed_up_to depth (len + 1) (len + 1 + 1) (body_of (view v))) two inner in
    list_more (placed_up_to depth) home (len + 1) (next + 1) items i v done one two r h is first inner (omega (arith, grown, more, single, long)) e

-- an item's body is refused
pub body_refused : (depth home : ℕ) (items : List Value) (i : ℕ) (v : Value) (body : List Value) (len mid : ℕ) (done one : List TreeNode) (f : PlanFault) (r : Result (List TreeNode) PlanFault)
    → i < length items → v ≡ get_or items i v → map view body ≡ body_of (view v)
    → nodes_of (alone (len + 1) home (view v)) ≡ Ok one
    → mid ≡ len + length one
    → r ≡ onto done (nodes_of (placed_with (placed_up_to depth) home (len + 1) (map view (drop i items))))
    → nodes_of (placed_up_to depth (len + 1) (mid + 1) (map view body)) ≡ Err f → r ≡ Err f
body_refused depth home items i v body len mid done one f r h is seen first grown e second =
    let single : length one ≡ 1 = length-nodes_of (alone (len + 1) home (view v)) one first in
    body_fault (placed_up_to depth) home (len + 1) items i v done one f r h is e first (of_body depth (len + 1) (mid + 1) v body (Err f) seen (omega (arith, grown, single)) second)

-- a node that was read alone
pub single_node : (n home : ℕ) (v : Value) (one : List TreeNode) → nodes_of (alone n home (view v)) ≡ Ok one → length one ≡ 1
single_node n home v one first = length-nodes_of (alone n home (view v)) one first

-- there is place for a body's nodes, behind its iteration
pub body_fits : (depth : ℕ) (items : List Value) (i : ℕ) (v : Value) (body : List Value) (len mid : ℕ) → i < length items → v ≡ get_or items i v → map view body ≡ body_of (view v)
    → mid ≡ len + 1 → len + count_with (count_up_to depth) (map view (drop i items)) ≤ 64 → mid + count_up_to depth (map view body) ≤ 64
body_fits depth items i v body len mid h is seen grown few =
    let step = count_step (count_up_to depth) items i v h is in
    let same : count_up_to depth (map view body) ≡ count_up_to depth (body_of (view v)) = ap (count_up_to depth) seen in
    omega (arith, step, same, grown, few)

-- and for those behind it
pub rest_fits : (depth home : ℕ) (items : List Value) (i : ℕ) (v : Value) (body : List Value) (len mid next : ℕ) (two : List TreeNode) → i < length items → v ≡ get_or items i v → map view body ≡ body_of (view v)
    → mid ≡ len + 1 → nodes_of (placed_up_to depth (len + 1) (mid + 1) (map view body)) ≡ Ok two → next ≡ mid + length two
    → len + count_with (count_up_to depth) (map view (drop i items)) ≤ 64 → next + count_with (count_up_to depth) (map view (drop (i + 1) items)) ≤ 64
rest_fits depth home items i v body len mid next two h is seen grown second more few =
    let step = count_step (count_up_to depth) items i v h is in
    let same : count_up_to depth (map view body) ≡ count_up_to depth (body_of (view v)) = ap (count_up_to depth) seen in
    let long : length two ≡ count_up_to depth (map view body) = length-nodes_of (placed_up_to depth (len + 1) (mid + 1) (map view body)) two second ∙ length-placed depth (len + 1) (mid + 1) (map view body) in
    omega (arith, step, same, grown, more, long, few)

-- how long a vector is behind the nodes that were added
pub vec_grown : (old new : Vec TreeNode Global) (more : List TreeNode) → new.items ≡ old.items ++ more → vec_len new ≡ vec_len old + length more
vec_grown old new more e =
    let before : length old.items ≡ vec_len old = sym old.ok.0 in
    let after : length new.items ≡ vec_len new = sym new.ok.0 in
    omega (arith, before, after, ap length e, length-append old.items more)
