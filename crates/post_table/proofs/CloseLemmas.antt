-- What the slots have once every seat was met.
use Rattle.std.proofs.Common.{◌≡◌, ℕ, suc, zero, ◌+◌, ◌/◌, ◌<◌, ◌≤◌, true, List, [], ◌∷◌, ◌∙◌, ap, sym, subst, length, map, get_or, sum_by, All, None, refl, arith, Bool, false, ◌++◌, take, set}
use mathlib.Core.Option.{some, some-injective, some-ne-none}
use lib.ListN.{get_elem?}
use Rattle.atomic_table.specs.Table.{Final, Seen}
use Rattle.segment_core.specs.Segments.{SegmentView, segment_sum}
use Rattle.post_table.specs.Pairs.{pair_count, poster_of, receiver_of, turn}
use Rattle.post_table.specs.Views.{of_pair, is_here, weigh_in, weigh_out}
use Rattle.post_table.specs.Rule.{sum_below, IsHome, IsMailbox, IsSeated, IsPostTable}
use Rattle.post_table.specs.declared.view.Moved.{Moved}
use Rattle.post_table.specs.declared.view.View.{View}
use Rattle.post_table.proofs.PairLemmas.{poster_near, receiver_near, turn_near}
use Rattle.post_table.proofs.StepLemmas.{St, own_list}
use Rattle.post_table.proofs.MailLemmas.{at_home}
use Rattle.post_table.proofs.SumLemmas.{total_log, total_spares, total_slots, total_balance, Weighs}

read_there : {A : Type 0} (l : List A) (i : ℕ) (a d : A) → get_elem? l i ≡ some a → i < length l → get_or l i d ≡ a
read_there [] i a d e near = absurd (omega arith)
read_there (x ∷ l) zero a d e near = some-injective x a e
read_there (x ∷ l) (suc i) a d e near = read_there l i a d e (omega arith)

there_at : {A : Type 0} (l : List A) (i : ℕ) (d : A) → i < length l → get_elem? l i ≡ some (get_or l i d)
there_at [] i d near = absurd (omega arith)
there_at (x ∷ l) zero d near = refl
there_at (x ∷ l) (suc i) d near = there_at l i d (omega arith)

-- a place of a row that was emptied is empty
pub off_here : (filled : List Bool) (i : ℕ) → get_or (set filled i false) i false ≡ false
off_here [] i = refl
off_here (b ∷ filled) zero = refl
off_here (b ∷ filled) (suc i) = off_here filled i

take_suc : (l : List SegmentView) (i : ℕ) (a : SegmentView) → get_elem? l i ≡ some a → take (suc i) l ≡ take i l ++ a ∷ []
take_suc [] i a e = absurd (some-ne-none a (sym e))
take_suc (x ∷ l) zero a e = ap (λ (y : SegmentView). y ∷ []) (some-injective x a e)
take_suc (x ∷ l) (suc i) a e = ap (λ (m : List SegmentView). x ∷ m) (take_suc l i a e)

-- one segment more is home
pub take_next : (l : List SegmentView) (i : ℕ) (a : SegmentView) → get_elem? l i ≡ some a → take (i + 1) l ≡ take i l ++ a ∷ []
take_next l i a e =
    let next : i + 1 ≡ suc i = omega arith in ap (λ (n : ℕ). take n l) next ∙ take_suc l i a e

abbrev Weighed : List SegmentView → ℕ → View → List ℕ → Type 0
Weighed pages size v spares = (h : ℕ → ℕ → ℕ) → segment_sum h pages + weigh_out (λ i. h i size) v.posted + weigh_out (λ i. h i size) v.took
    ≡ sum_by (λ i. h i size) spares + weigh_in (λ i. h i size) v.posted + weigh_in (λ i. h i size) v.took

-- what is weighed at the table is weighed at what contracts see
pub weighed_on : (pages xs : List SegmentView) (size size' : ℕ) (v u : View) (spares spares' : List ℕ) → pages ≡ xs → size ≡ size' → v ≡ u → spares ≡ spares' → Weighed xs size v spares → Weighed pages size' u spares'
weighed_on pages xs size size' v u spares spares' a b c d h =
    subst (λ (l : List SegmentView). Weighed l size' u spares') (sym a)
    (subst (λ (z : ℕ). Weighed xs z u spares') b
    (subst (λ (y : View). Weighed xs size y spares') c
    (subst (λ (l : List ℕ). Weighed xs size v l) d h)))

pub sized_on : (pages xs : List SegmentView) (size size' : ℕ) → pages ≡ xs → size ≡ size' → All (λ (p : SegmentView). length p.bytes ≡ size) xs → All (λ (p : SegmentView). length p.bytes ≡ size') pages
sized_on pages xs size size' a b h =
    subst (λ (l : List SegmentView). All (λ (p : SegmentView). length p.bytes ≡ size') l) (sym a)
    (subst (λ (z : ℕ). All (λ (p : SegmentView). length p.bytes ≡ z) xs) b h)

no_segment : SegmentView
no_segment = record { id = 0; bytes = [] }

module _ (w size : ℕ) (opened : List ℕ) (two : 2 ≤ w) (wide : length opened ≡ pair_count w) where
  abbrev R : St → Type 0
  R s = IsPostTable w size opened s

  module _ (id : ℕ) (v : View) (words : List ℕ) (xs : List SegmentView) (end : Final (Seen R id v) words xs) (free : v.holding ≡ None) (met : (i : ℕ) → i < w → is_here v i ≡ true) where
    abbrev s : St
    s = end.0

    abbrev r : R s
    r = end.1.0

    abbrev seated : IsSeated w size s.words r.posted r.took r.owner id v
    seated = r.each_seat id v end.1.1

    abbrev mail : (k : ℕ) → k < pair_count w → IsMailbox size (get_or opened k 0 / 2) (get_or s.words k 0) (r.posted k) (r.took k) s.views (r.owner (turn w (get_or s.words k 0) k)) k (get_elem? s.homes k)
    mail k near = r.each_pair k near

    home : (k : ℕ) → (near : k < pair_count w) → IsHome size (mail k near).id (mail k near).waiting (get_elem? s.homes k)
    home k near = at_home w size opened s r k id v near end.1.1 free (met (turn w (get_or s.words k 0) k) (turn_near w (get_or s.words k 0) k two near))

    pub count_is : length xs ≡ pair_count w
    count_is = sym end.3 ∙ r.long

    -- What lies in slot k.
    record IsBack (k : ℕ) (near : k < pair_count w) : Type 0 where
      segment : SegmentView
      there : get_elem? xs k ≡ some segment
      same : segment.id ≡ (mail k near).id
      sized : length segment.bytes ≡ size

    back : (k : ℕ) → (near : k < pair_count w) → IsBack k near
    back k near =
        let h : IsHome size (mail k near).id (mail k near).waiting (get_elem? s.homes k) = home k near in
        record { segment = h.segment; there = end.4 k h.segment h.there; same = h.same; sized = h.sized }

    pub all_sized : All (λ (p : SegmentView). length p.bytes ≡ size) xs
    all_sized k d inside =
        let near : k < pair_count w = (let e : length xs ≡ pair_count w = count_is in omega arith) in
        let b : IsBack k near = back k near in
        ap (λ (p : SegmentView). length p.bytes) (read_there xs k b.segment d b.there inside) ∙ b.sized

    own_posted : (k : ℕ) → k < pair_count w → of_pair k v.posted ≡ r.posted k
    own_posted k near = own_list (is_here v (poster_of w k)) (r.posted k) (of_pair k v.posted) (met (poster_of w k) (poster_near w k two near)) (seated.posts k near)

    own_took : (k : ℕ) → k < pair_count w → of_pair k v.took ≡ r.took k
    own_took k near = own_list (is_here v (receiver_of w k)) (r.took k) (of_pair k v.took) (met (receiver_of w k) (receiver_near w k two near)) (seated.takes k near)

    id_at : ℕ → ℕ
    id_at k = (get_or xs k no_segment).id

    id_is : (k : ℕ) → (near : k < pair_count w) → id_at k ≡ (mail k near).id
    unfolding id_at
    id_is k near =
        let b : IsBack k near = back k near in
        let inside : k < length xs = (let e : length xs ≡ pair_count w = count_is in omega arith) in
        ap (λ (p : SegmentView). p.id) (read_there xs k b.segment no_segment b.there inside) ∙ b.same

    weighs_at : (h : ℕ → ℕ → ℕ) (k : ℕ) → k < length xs → Weighs h xs k (h (id_at k) size)
    unfolding id_at
    weighs_at h k inside = record {
      segment = get_or xs k no_segment;
      there = there_at xs k no_segment inside;
      is = ap (h (get_or xs k no_segment).id) (all_sized k no_segment inside);
    }

    pair_weighs : (g : ℕ → ℕ) (k : ℕ) → k < pair_count w → g (id_at k) + weigh_out g (of_pair k v.posted) + weigh_out g (of_pair k v.took)
        ≡ g (get_or opened k 0 / 2) + weigh_in g (of_pair k v.posted) + weigh_in g (of_pair k v.took)
    pair_weighs g k near =
        let p : of_pair k v.posted ≡ r.posted k = own_posted k near in
        let t : of_pair k v.took ≡ r.took k = own_took k near in
        omega (arith, (mail k near).weighs g, ap g (id_is k near), ap (weigh_out g) p, ap (weigh_out g) t, ap (weigh_in g) p, ap (weigh_in g) t)

    pub all_weigh : (h : ℕ → ℕ → ℕ) → segment_sum h xs + weigh_out (λ i. h i size) v.posted + weigh_out (λ i. h i size) v.took
        ≡ sum_by (λ i. h i size) (map (λ (word : ℕ). word / 2) opened) + weigh_in (λ i. h i size) v.posted + weigh_in (λ i. h i size) v.took
    all_weigh h =
        let g : ℕ → ℕ = λ i. h i size in
        let n : ℕ = pair_count w in
        let back_at : ℕ → ℕ = λ k. g (id_at k) in
        let slots : segment_sum h xs ≡ sum_below (length xs) back_at = total_slots h xs back_at (weighs_at h) in
        let spares : sum_by g (map (λ (word : ℕ). word / 2) opened) ≡ sum_below (length opened) (λ k. g (get_or opened k 0 / 2)) = total_spares g opened in
        let out_p : weigh_out g v.posted ≡ sum_below n (λ k. weigh_out g (of_pair k v.posted)) = total_log n (λ (m : Moved). g m.came_out) v.posted seated.posts_pairs in
        let out_t : weigh_out g v.took ≡ sum_below n (λ k. weigh_out g (of_pair k v.took)) = total_log n (λ (m : Moved). g m.came_out) v.took seated.takes_pairs in
        let in_p : weigh_in g v.posted ≡ sum_below n (λ k. weigh_in g (of_pair k v.posted)) = total_log n (λ (m : Moved). g m.went_in) v.posted seated.posts_pairs in
        let in_t : weigh_in g v.took ≡ sum_below n (λ k. weigh_in g (of_pair k v.took)) = total_log n (λ (m : Moved). g m.went_in) v.took seated.takes_pairs in
        let all : sum_below n back_at + sum_below n (λ k. weigh_out g (of_pair k v.posted)) + sum_below n (λ k. weigh_out g (of_pair k v.took))
        ≡ sum_below n (λ k. g (get_or opened k 0 / 2)) + sum_below n (λ k. weigh_in g (of_pair k v.posted)) + sum_below n (λ k. weigh_in g (of_pair k v.took)) =
        total_balance n back_at (λ k. weigh_out g (of_pair k v.posted)) (λ k. weigh_out g (of_pair k v.took)) (λ k. g (get_or opened k 0 / 2)) (λ k. weigh_in g (of_pair k v.posted)) (λ k. weigh_in g (of_pair k v.took)) (pair_weighs g) in
        omega (arith, ap (λ (k : ℕ). sum_below k back_at) count_is, ap (λ (k : ℕ). sum_below k (λ j. g (get_or opened j 0 / 2))) wide)
