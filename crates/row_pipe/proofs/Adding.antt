-- Records that are added to a lot, one after the other.
use Rattle.std.proofs.Common.{Result, OnOk, ◌≡◌, ℕ, zero, suc, ◌+◌, ◌<◌, ◌≤◌, Bool, true, false, cond, All, List, [], ◌∷◌, ◌++◌, length, map, take, Option, refl, sym, ap, ◌∙◌, subst, arith, append_assoc, append-nil, get_or}
use Rattle.std.specs.List.{filter}
use Rattle.std.proofs.lemmas.List.{map-append, take_more}
use Rattle.std.proofs.lemmas.List.Elements.{All-nil, All-cons, All-head, All-tail, filter-append}
use Rattle.segment_core.specs.Segments.{PurseView, SegmentView}
use Rattle.flow_outside.specs.Blocks.{Blocks, BothTold}
use Rattle.flow_outside.specs.Told.{IfTold}
use Rattle.flow_types.specs.Records.{form}
use Rattle.flow_types.specs.Tuples.{Tuple}
use Rattle.flow_types.specs.Values.{flag_of}
use Rattle.flow_types.specs.Expressions.{val}
use Rattle.flow_model.specs.declared.op.Branch.{Branch}
use Rattle.flow_model.specs.Rows.{branch_rows, columns_of}
use Rattle.lot_store.specs.LotCalls.{AppendsRow, IsSupplied, Writes}
use Rattle.lot_store.specs.Lots.{HoldsRows, LotView}
use Rattle.lot_store.specs.Storage.{StaysStanding, alone}
use Rattle.lot_store.proofs.LotLemmas.{on_ok_map}
use Rattle.spool.proofs.SpillLemmas.{told_join, told_with}
use Rattle.lot_store.proofs.StorageLaws.{preserves_join, preserves_more, preserves_none, ready_after}
use Rattle.lot_store.proofs.StorageLot.{one_stands}
use Rattle.lot_store.proofs.Telling.{told_after, told_same}
use Rattle.row_pipe.specs.Pipes.{AddsRows, AreWithin, CanAdd, HasPlaceFor, most_touched}

-- two calls, one after the other
pub writes_join : (t u v : Option Blocks) (a b c : LotView) (p q r : PurseView) → Writes t u p q a b → Writes u v q r b c → Writes t v p r a c
writes_join t u v a b c p q r f g = preserves_join (alone t p a) (alone u q b) (alone v r c) (0 ∷ []) (0 ∷ []) true f g

-- nothing was done
pub writes_none : (t : Option Blocks) (lot : LotView) (purse : PurseView) → Writes t t purse purse lot lot
writes_none t lot purse =
    preserves_more (alone t purse lot) (alone t purse lot) [] [] (0 ∷ []) (0 ∷ []) true true (λ i none. tt) (λ i none. tt) (λ is. is) (preserves_none (alone t purse lot))

pub adds_join : (a b c : LotView) (xs ys : List (List ℕ)) (k m n : Blocks) → AddsRows a b xs k m → AddsRows b c ys m n → AddsRows a c (xs ++ ys) k n
adds_join a b c xs ys k m n f g all h = subst (HoldsRows n c) (append_assoc all xs ys) (g (all ++ xs) (f all h))

pub added_join : (t u v : Option Blocks) (a b c : LotView) (xs ys : List (List ℕ)) → BothTold t u (AddsRows a b xs) → BothTold u v (AddsRows b c ys) → BothTold t v (AddsRows a c (xs ++ ys))
added_join t u v a b c xs ys f g = told_join t u v (AddsRows a b xs) (AddsRows b c ys) (AddsRows a c (xs ++ ys)) (λ k m n. adds_join a b c xs ys k m n) f g

pub adds_none : (lot : LotView) (m : Blocks) → AddsRows lot lot [] m m
adds_none lot m all h = subst (HoldsRows m lot) (sym (append-nil all)) h

pub added_none : (t : Option Blocks) (lot : LotView) → BothTold t t (AddsRows lot lot [])
added_none t lot = told_same t (AddsRows lot lot []) (adds_none lot)

-- Where there is a place for the record, appending it adds it.
pub added_row : {E : Type 0} (answer : Result Unit E) (t u : Option Blocks) (a b : LotView) (p : List SegmentView) (row : List ℕ) → IfTold t (HasPlaceFor (row ∷ []) a p)
    → OnOk answer (BothTold t u (AppendsRow a b p row)) → OnOk answer (BothTold t u (AddsRows a b (row ∷ [])))
added_row answer t u a b p row place adds =
    on_ok_map answer (BothTold t u (AppendsRow a b p row)) (BothTold t u (AddsRows a b (row ∷ [])))
    (λ h. told_with t u (HasPlaceFor (row ∷ []) a p) (AppendsRow a b p row) (AddsRows a b (row ∷ []))
    (λ m n here one all holds. one.rows here.size (one_stands here.size p a m here.stand) all holds (All-head (λ (bytes : List ℕ). most_touched here.size (length bytes) ≤ a.feed.reach) row [] here.within)) place h)
    adds

-- Of what is made of the elements that pass, what is so of all is so of what is made of one.
front : {X Y : Type 0} (P : Y → Type 0) (f : X → Y) (x : X) (ys : List X) (b : Bool) → All P (map f (cond b (x ∷ ys) ys)) → All P (map f (cond b (x ∷ []) []))
front P f x ys true h = All-cons P (f x) [] (All-head P (f x) (map f ys) h) (All-nil P)
front P f x ys false h = All-nil P

behind : {X Y : Type 0} (P : Y → Type 0) (f : X → Y) (x : X) (ys : List X) (b : Bool) → All P (map f (cond b (x ∷ ys) ys)) → All P (map f ys)
behind P f x ys true h = All-tail P (f x) (map f ys) h
behind P f x ys false h = h

one_of : {X Y : Type 0} (P : Y → Type 0) (f : X → Y) (p : X → Bool) (xs : List X) (i : ℕ) (d : X) → i < length xs → All P (map f (filter p xs)) → All P (map f (filter p (get_or xs i d ∷ [])))
one_of P f p [] i d low h = absurd (omega (arith, low))
one_of P f p (x ∷ xs) zero d low h = front P f x (filter p xs) (p x) h
one_of P f p (x ∷ xs) (suc i) d low h = one_of P f p xs i d (omega (arith, low)) (behind P f x (filter p xs) (p x) h)

-- what is made of what is made of one
map_both : {X Y Z : Type 0} (g : Y → Z) (f : X → Y) (xs : List X) → map (λ x. g (f x)) xs ≡ map g (map f xs)
map_both g f [] = refl
map_both g f (x ∷ xs) = ap (λ zs. g (f x) ∷ zs) (map_both g f xs)

-- what is so of what is made of each is so of all that is made
pub all_map : {X Y : Type 0} (P : Y → Type 0) (f : X → Y) (xs : List X) → All (λ x. P (f x)) xs → All P (map f xs)
all_map P f [] h = All-nil P
all_map P f (x ∷ xs) h = All-cons P (f x) (map f xs) (All-head (λ y. P (f y)) x xs h) (all_map P f xs (All-tail (λ y. P (f y)) x xs h))

made_twice : {X Y Z : Type 0} (P : Z → Type 0) (g : Y → Z) (f : X → Y) (p : X → Bool) (xs : List X) (i : ℕ) (d : X) → i < length xs
    → All P (map g (map f (filter p xs))) → All P (map g (map f (filter p (get_or xs i d ∷ []))))
made_twice P g f p xs i d low h =
    subst (All P) (map_both g f (filter p (get_or xs i d ∷ []))) (one_of P (λ x. g (f x)) p xs i d low (subst (All P) (sym (map_both g f (filter p xs))) h))

within_one : (size reach : ℕ) (branches : List Branch) (i : ℕ) (d : Branch) (row : Tuple) → i < length branches
    → AreWithin size reach (map form (branch_rows branches row)) → AreWithin size reach (map form (branch_rows (get_or branches i d ∷ []) row))
within_one size reach branches i d row low h =
    made_twice (λ (bytes : List ℕ). most_touched size (length bytes) ≤ reach) form (λ (b : Branch). columns_of b.columns row) (λ (b : Branch). flag_of (val row b.when)) branches i d low h

-- The place for all that is given of branches is one for what is given of one of them, also after others were added.
pub place_at : (t u : Option Blocks) (a b : LotView) (p q : PurseView) (branches : List Branch) (i : ℕ) (d : Branch) (row : Tuple) → i < length branches
    → IfTold t (HasPlaceFor (map form (branch_rows branches row)) a p.pages) → Writes t u p q a b
    → IfTold u (HasPlaceFor (map form (branch_rows (get_or branches i d ∷ []) row)) b q.pages)
place_at t u a b p q branches i d row low place writes =
    told_after t u (HasPlaceFor (map form (branch_rows branches row)) a p.pages) (HasPlaceFor (map form (branch_rows (get_or branches i d ∷ []) row)) b q.pages) (StaysStanding (alone t p a) (alone u q b) (0 ∷ []) true)
    (λ m n here stays. record {
      size = here.size;
      stand = stays.stand here.size here.stand;
      within = subst (λ (reach : ℕ). AreWithin here.size reach (map form (branch_rows (get_or branches i d ∷ []) row))) (sym (writes.reach 0 a))
          (within_one here.size a.feed.reach branches i d row low here.within);
    })
    place writes.told

-- What is given of one branch more stands behind what is given of those before.
pub branches_more : (branches : List Branch) (i : ℕ) (d : Branch) (row : Tuple) → i < length branches
    → map form (branch_rows (take (i + 1) branches) row) ≡ map form (branch_rows (take i branches) row) ++ map form (branch_rows (get_or branches i d ∷ []) row)
branches_more branches i d row low =
    ap (λ bs. map form (branch_rows bs row)) (take_more branches i d low)
    ∙ ap (λ bs. map form (map (λ (b : Branch). columns_of b.columns row) bs)) (filter-append (λ (b : Branch). flag_of (val row b.when)) (take i branches) (get_or branches i d ∷ []))
    ∙ ap (map form) (map-append (λ (b : Branch). columns_of b.columns row) (filter (λ (b : Branch). flag_of (val row b.when)) (take i branches)) (filter (λ (b : Branch). flag_of (val row b.when)) (get_or branches i d ∷ [])))
    ∙ map-append form (branch_rows (take i branches) row) (branch_rows (get_or branches i d ∷ []) row)

pub added_branch : (t u v : Option Blocks) (a b c : LotView) (branches : List Branch) (i : ℕ) (d : Branch) (row : Tuple) → i < length branches
    → BothTold t u (AddsRows a b (map form (branch_rows (take i branches) row))) → BothTold u v (AddsRows b c (map form (branch_rows (get_or branches i d ∷ []) row)))
    → BothTold t v (AddsRows a c (map form (branch_rows (take (i + 1) branches) row)))
added_branch t u v a b c branches i d row low f g =
    subst (λ rows. BothTold t v (AddsRows a c rows)) (sym (branches_more branches i d row low))
    (added_join t u v a b c (map form (branch_rows (take i branches) row)) (map form (branch_rows (get_or branches i d ∷ []) row)) f g)

-- the same of a branch that a loop is at
pub place_of : (t u : Option Blocks) (a b : LotView) (p q : PurseView) (branches : List Branch) (i : ℕ) (x : Branch) (row : Tuple) → i < length branches → x ≡ get_or branches i x
    → IfTold t (HasPlaceFor (map form (branch_rows branches row)) a p.pages) → Writes t u p q a b
    → IfTold u (HasPlaceFor (map form (branch_rows (x ∷ []) row)) b q.pages)
place_of t u a b p q branches i x row low is place writes =
    subst (λ y. IfTold u (HasPlaceFor (map form (branch_rows (y ∷ []) row)) b q.pages)) (sym is) (place_at t u a b p q branches i x row low place writes)

pub added_of : (t u v : Option Blocks) (a b c : LotView) (branches : List Branch) (i : ℕ) (x : Branch) (row : Tuple) → i < length branches → x ≡ get_or branches i x
    → BothTold t u (AddsRows a b (map form (branch_rows (take i branches) row))) → BothTold u v (AddsRows b c (map form (branch_rows (x ∷ []) row)))
    → BothTold t v (AddsRows a c (map form (branch_rows (take (i + 1) branches) row)))
added_of t u v a b c branches i x row low is f g =
    added_branch t u v a b c branches i x row low f (subst (λ y. BothTold u v (AddsRows b c (map form (branch_rows (y ∷ []) row)))) is g)

-- Where a record was added, the next may be.
pub can_add_on : {E : Type 0} (answer : Result Unit E) (t u : Option Blocks) (a b : LotView) (p q : PurseView) → OnOk answer (IsSupplied q b) → Writes t u p q a b → CanAdd t a p → OnOk answer (CanAdd u b q)
can_add_on answer t u a b p q supply writes can =
    on_ok_map answer (IsSupplied q b) (CanAdd u b q) (λ h. record { supply = h; ready = ready_after (alone t p a) (alone u q b) (0 ∷ []) (0 ∷ []) true writes can.ready }) supply
