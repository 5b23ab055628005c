-- What the members of a crowd keep while they work, and how their seats leave the main seat.
use Rattle.std.proofs.Common.{◌≡◌, ◌≢◌, ℕ, zero, suc, ◌+◌, ◌<◌, Bool, true, false, cond, not, ◌==◌, ◌||◌, List, [], ◌∷◌, ◌++◌, ◌∙◌, ap, ap₂, sym, length, filter, refl, arith, get_or, true≢false, append_assoc, append-nil, eq-eqb, ne_eqb, take, drop, take_all}
use Rattle.std.proofs.lemmas.List.{take-append-le}
use Rattle.std.proofs.lemmas.List.Sums.{sum_by-cons, sum_by_push}
use Rattle.segment_core.specs.Segments.{SegmentView, segment_sum}
use Rattle.segment_core.proofs.Weighing.{segment_sum-one, segment_sum-push}
use Rattle.post_table.specs.Pairs.{workers_below}
use Rattle.post_table.specs.Seats.{PostView}
use Rattle.post_table.specs.Views.{is_among}
use Rattle.post_table.specs.declared.view.View.{View}
use Rattle.post_table.proofs.LogLemmas.{among-append}
use Rattle.worked_post.specs.Swaps.{put_in, took_out, IsUnused, Swaps}
use Rattle.worked_post.specs.Crowd.{IsAt, IsLater, all_given, all_got, all_here, weigh_given, weigh_got}
use Rattle.worked_post.specs.declared.crowd.Member.{Member}

-- nothing weighs nothing
pub unused_in : (h : ℕ → ℕ → ℕ) (n : ℕ) (v : View) → IsUnused v → put_in h n v ≡ 0
unused_in h n v u = ap₂ (λ a b. put_in h n (record v { posted = a; took = b })) u.posted u.took

pub unused_out : (h : ℕ → ℕ → ℕ) (n : ℕ) (v : View) → IsUnused v → took_out h n v ≡ 0
unused_out h n v u = ap₂ (λ a b. took_out h n (record v { posted = a; took = b })) u.posted u.took

-- a segment left the hand, and the one for which it was swapped came into it
pub later_swap : (n : ℕ) (old new : Member) (left : List SegmentView) (out into back : SegmentView) → new.number ≡ old.number → new.seat.view.here ≡ old.seat.view.here
    → old.hand.pages ≡ left ++ out ∷ [] → new.hand.pages ≡ left ++ back ∷ [] → into.id ≡ out.id → length into.bytes ≡ length out.bytes
    → Swaps n old.seat.view new.seat.view into back → IsLater n old new
later_swap n old new left out into back number here was is id len swaps = record {
  number = number;
  here = here;
  swaps = λ h. omega (
    arith,
    ap (segment_sum h) was,
    ap (segment_sum h) is,
    segment_sum-push h left out,
    segment_sum-push h left back,
    ap₂ h id len,
    segment_sum-one h into,
    segment_sum-one h back,
    swaps h,
  );
}

module _ (post : PostView) where
  -- each of these members stands at the post, and is later what that member of the others was
  abbrev pub EachLater : List Member → List Member → Type 0
  EachLater xs ys = (i : ℕ) (d : Member) → i < length xs → IsAt post (get_or ys i d) × IsLater post.size (get_or xs i d) (get_or ys i d)

  rest_later : (x y : Member) (xs ys : List Member) → EachLater (x ∷ xs) (y ∷ ys) → EachLater xs ys
  rest_later x y xs ys each i d near = each (suc i) d (omega arith)

  pub each_here : (xs ys : List Member) → length xs ≡ length ys → EachLater xs ys → all_here ys ≡ all_here xs
  each_here [] [] len each = refl
  each_here [] (y ∷ ys) len each = absurd (omega arith)
  each_here (x ∷ xs) [] len each = absurd (omega arith)
  each_here (x ∷ xs) (y ∷ ys) len each =
      ap₂ (λ (a b : List ℕ). a ++ b) (each 0 x (omega arith)).1.here (each_here xs ys (omega arith) (rest_later x y xs ys each))

  pub each_swaps : (h : ℕ → ℕ → ℕ) (xs ys : List Member) → length xs ≡ length ys → EachLater xs ys
      → all_given h post.size ys + all_got h post.size xs ≡ all_given h post.size xs + all_got h post.size ys
  each_swaps h [] [] len each = refl
  each_swaps h [] (y ∷ ys) len each = absurd (omega arith)
  each_swaps h (x ∷ xs) [] len each = absurd (omega arith)
  each_swaps h (x ∷ xs) (y ∷ ys) len each =
      let n : ℕ = post.size in
      omega (
        arith,
        (each 0 x (omega arith)).1.swaps h,
        each_swaps h xs ys (omega arith) (rest_later x y xs ys each),
        sum_by-cons (weigh_given h n) x xs,
        sum_by-cons (weigh_given h n) y ys,
        sum_by-cons (weigh_got h n) x xs,
        sum_by-cons (weigh_got h n) y ys,
      )

-- a member more
pub here_push : (ms : List Member) (m : Member) → all_here (ms ++ m ∷ []) ≡ all_here ms ++ m.seat.view.here
here_push [] m = append-nil m.seat.view.here
here_push (x ∷ ms) m = ap (λ (l : List ℕ). x.seat.view.here ++ l) (here_push ms m) ∙ sym (append_assoc x.seat.view.here (all_here ms) m.seat.view.here)

pub given_push : (h : ℕ → ℕ → ℕ) (n : ℕ) (ms : List Member) (m : Member) → all_given h n (ms ++ m ∷ []) ≡ all_given h n ms + weigh_given h n m
given_push h n ms m = sum_by_push (weigh_given h n) ms m

pub got_push : (h : ℕ → ℕ → ℕ) (n : ℕ) (ms : List Member) (m : Member) → all_got h n (ms ++ m ∷ []) ≡ all_got h n ms + weigh_got h n m
got_push h n ms m = sum_by_push (weigh_got h n) ms m

-- the greatest of the workers below n + 1 is among them, and without it they are those below n
pub below_is : (n : ℕ) → workers_below (n + 1) ≡ n ∷ workers_below n
below_is n = ap workers_below (let e : n + 1 ≡ suc n = omega arith in e)

same_number : (n : ℕ) → (n == n) ≡ true
same_number n = eq-eqb n n refl

all_stay : (n m : ℕ) → m < n + 1 → filter (λ (i : ℕ). not (i == n)) (workers_below m) ≡ workers_below m
all_stay n zero near = refl
all_stay n (suc m) near =
    let other : m ≢ n = λ e. omega arith in
    ap (λ (b : Bool). cond (not b) (m ∷ filter (λ (i : ℕ). not (i == n)) (workers_below m)) (filter (λ (i : ℕ). not (i == n)) (workers_below m))) (ne_eqb m n other)
    ∙ ap (λ (l : List ℕ). m ∷ l) (all_stay n m (omega arith))

pub below_without : (n : ℕ) → filter (λ (i : ℕ). not (i == n)) (workers_below (n + 1)) ≡ workers_below n
below_without n =
    ap (filter (λ (i : ℕ). not (i == n))) (below_is n)
    ∙ ap (λ (b : Bool). cond (not b) (n ∷ filter (λ (i : ℕ). not (i == n)) (workers_below n)) (filter (λ (i : ℕ). not (i == n)) (workers_below n))) (same_number n)
    ∙ all_stay n n (omega arith)

-- of all workers each is among them
pub below_all : (n i : ℕ) → i < n → is_among i (workers_below n) ≡ true
below_all zero i near = absurd (omega arith)
below_all (suc n) i near = go (i == n) refl (below_all n i)
  where
    go : (b : Bool) → (i == n) ≡ b → (i < n → is_among i (workers_below n) ≡ true) → (b || is_among i (workers_below n)) ≡ true
    go true e rest = refl
    go false e rest =
        let other : i ≢ n = λ same. true≢false (sym (eq-eqb i n same) ∙ e) in
        rest (omega arith)

or_moves : (x y z : Bool) → (x || (y || z)) ≡ true → ((x || z) || y) ≡ true
or_moves true y z e = refl
or_moves false true true e = refl
or_moves false true false e = refl
or_moves false false true e = refl
or_moves false false false e = e

-- where a worker goes from the end of one list to that of another it is still in one of them
pub among_moves : (i : ℕ) (a b c : List ℕ) → (is_among i a || is_among i (b ++ c)) ≡ true → (is_among i (a ++ c) || is_among i b) ≡ true
among_moves i a b c e =
    ap (λ (x : Bool). x || is_among i b) (among-append i a c)
    ∙ or_moves (is_among i a) (is_among i b) (is_among i c) (ap (λ (x : Bool). is_among i a || x) (sym (among-append i b c)) ∙ e)

-- a slice that was lent of a whole list and written stands in its place
pub written : (n : ℕ) (new old : List Member) → length new ≡ n → take n (new ++ drop (length new) old) ≡ new
written n new old len = take-append-le n new (drop (length new) old) (omega arith) ∙ take_all n new (omega arith)
