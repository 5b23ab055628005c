-- Sums over all pairs: of the words, of the slots, and of a log by its pairs.
use Rattle.std.proofs.Common.{◌≡◌, ◌≢◌, ℕ, suc, zero, ◌+◌, ◌/◌, ◌<◌, Bool, true, false, cond, ◌==◌, List, [], ◌∷◌, ◌∙◌, ap, sym, length, map, get_or, sum_by, All, refl, arith, eq-eqb, ne_eqb}
use Rattle.std.proofs.lemmas.List.Sums.{sum_by-cons}
use Rattle.std.proofs.lemmas.List.Elements.{All-head, All-tail}
use mathlib.Core.Logic.{dite}
use mathlib.Core.Option.{some, some-injective}
use native.Mathlib.Decide.{ℕ_discrete}
use lib.ListN.{get_elem?}
use Rattle.segment_core.specs.Segments.{SegmentView, segment_sum}
use Rattle.segment_core.proofs.Weighing.{segment_sum-cons}
use Rattle.post_table.specs.Rule.{sum_below}
use Rattle.post_table.specs.Views.{Log, of_pair}
use Rattle.post_table.specs.declared.view.Moved.{Moved}

pub total_same : (n : ℕ) (f g : ℕ → ℕ) → ((k : ℕ) → k < n → f k ≡ g k) → sum_below n f ≡ sum_below n g
total_same zero f g e = refl
total_same (suc n) f g e =
    omega (arith, e 0 (omega arith), total_same n (λ k. f (suc k)) (λ k. g (suc k)) (λ k near. e (suc k) (omega arith)))

pub total_zero : (n : ℕ) (f : ℕ → ℕ) → ((k : ℕ) → k < n → f k ≡ 0) → sum_below n f ≡ 0
total_zero zero f e = refl
total_zero (suc n) f e = omega (arith, e 0 (omega arith), total_zero n (λ k. f (suc k)) (λ k near. e (suc k) (omega arith)))

pub total_add : (n : ℕ) (f g h : ℕ → ℕ) → ((k : ℕ) → k < n → h k ≡ f k + g k) → sum_below n h ≡ sum_below n f + sum_below n g
total_add zero f g h e = refl
total_add (suc n) f g h e =
    omega (arith, e 0 (omega arith), total_add n (λ k. f (suc k)) (λ k. g (suc k)) (λ k. h (suc k)) (λ k near. e (suc k) (omega arith)))

cond_at : (p k x : ℕ) → p ≡ k → cond (p == k) x 0 ≡ x
cond_at p k x e = ap (λ (b : Bool). cond b x 0) (eq-eqb p k e)

cond_off : (p k x : ℕ) → p ≢ k → cond (p == k) x 0 ≡ 0
cond_off p k x e = ap (λ (b : Bool). cond b x 0) (ne_eqb p k e)

cond_next : (q k x : ℕ) → cond (suc q == suc k) x 0 ≡ cond (q == k) x 0
cond_next q k x = dite (ℕ_discrete q k)
    (λ (e : q ≡ k). cond_at (suc q) (suc k) x (ap suc e) ∙ sym (cond_at q k x e))
    (λ (ne : q ≢ k). cond_off (suc q) (suc k) x (λ e. ne (omega arith)) ∙ sym (cond_off q k x ne))

-- one number alone counts
pub total_at : (n p x : ℕ) → p < n → sum_below n (λ k. cond (p == k) x 0) ≡ x
total_at zero p x near = absurd (omega arith)
total_at (suc n) zero x near =
    let rest : sum_below n (λ k. cond (zero == suc k) x 0) ≡ 0 = total_zero n (λ k. cond (zero == suc k) x 0) (λ k _. cond_off zero (suc k) x (λ e. omega arith)) in
    omega (arith, cond_at zero zero x refl)
total_at (suc n) (suc q) x near =
    let rest : sum_below n (λ k. cond (suc q == suc k) x 0) ≡ sum_below n (λ k. cond (q == k) x 0) = total_same n (λ k. cond (suc q == suc k) x 0) (λ k. cond (q == k) x 0) (λ k _. cond_next q k x) in
    omega (arith, total_at n q x (omega arith), cond_off (suc q) zero x (λ e. omega arith))

sum_split : (b : Bool) (f : Moved → ℕ) (m : Moved) (G : Log) → sum_by f (cond b (m ∷ G) G) ≡ cond b (f m) 0 + sum_by f G
sum_split true f m G = sum_by-cons f m G
sum_split false f m G = omega arith

-- a log weighs what it weighs pair by pair
pub total_log : (n : ℕ) (f : Moved → ℕ) (log : Log) → All (λ (m : Moved). m.pair < n) log → sum_by f log ≡ sum_below n (λ k. sum_by f (of_pair k log))
total_log n f [] all = sym (total_zero n (λ k. 0) (λ k _. refl))
total_log n f (m ∷ log) all =
    let near : m.pair < n = All-head (λ (x : Moved). x.pair < n) m log all in
    let rest : sum_by f log ≡ sum_below n (λ k. sum_by f (of_pair k log)) = total_log n f log (All-tail (λ (x : Moved). x.pair < n) m log all) in
    let split : sum_below n (λ k. sum_by f (of_pair k (m ∷ log))) ≡ sum_below n (λ k. cond (m.pair == k) (f m) 0) + sum_below n (λ k. sum_by f (of_pair k log)) =
    total_add n (λ k. cond (m.pair == k) (f m) 0) (λ k. sum_by f (of_pair k log)) (λ k. sum_by f (of_pair k (m ∷ log))) (λ k _. sum_split (m.pair == k) f m (of_pair k log)) in
    omega (arith, sum_by-cons f m log, total_at n m.pair (f m) near)

-- the opening spares
pub total_spares : (g : ℕ → ℕ) (words : List ℕ) → sum_by g (map (λ (word : ℕ). word / 2) words) ≡ sum_below (length words) (λ k. g (get_or words k 0 / 2))
total_spares g [] = refl
total_spares g (x ∷ words) = omega (arith, sum_by-cons g (x / 2) (map (λ (word : ℕ). word / 2) words), total_spares g words)

-- Slot k holds a segment that weighs so much.
pub record Weighs (h : ℕ → ℕ → ℕ) (xs : List SegmentView) (k much : ℕ) : Type 0 where
  pub segment : SegmentView
  pub there : get_elem? xs k ≡ some segment
  pub is : h segment.id (length segment.bytes) ≡ much

pub total_slots : (h : ℕ → ℕ → ℕ) (xs : List SegmentView) (f : ℕ → ℕ) → ((k : ℕ) → k < length xs → Weighs h xs k (f k)) → segment_sum h xs ≡ sum_below (length xs) f
total_slots h [] f each = refl
total_slots h (x ∷ xs) f each =
    let first : Weighs h (x ∷ xs) 0 (f 0) = each 0 (omega arith) in
    let same : x ≡ first.segment = some-injective x first.segment first.there in
    let here : h x.id (length x.bytes) ≡ f 0 = ap (λ (y : SegmentView). h y.id (length y.bytes)) same ∙ first.is in
    let rest : segment_sum h xs ≡ sum_below (length xs) (λ k. f (suc k)) = total_slots h xs (λ k. f (suc k)) (λ k near. let next : Weighs h (x ∷ xs) (suc k) (f (suc k)) = each (suc k) (omega arith) in record { segment = next.segment; there = next.there; is = next.is }) in
    omega (arith, segment_sum-cons h x xs)

-- three sums against three
pub total_balance : (n : ℕ) (a b c d e f : ℕ → ℕ) → ((k : ℕ) → k < n → a k + b k + c k ≡ d k + e k + f k) → sum_below n a + sum_below n b + sum_below n c ≡ sum_below n d + sum_below n e + sum_below n f
total_balance zero a b c d e f each = refl
total_balance (suc n) a b c d e f each =
    omega (arith, each 0 (omega arith), total_balance n (λ k. a (suc k)) (λ k. b (suc k)) (λ k. c (suc k)) (λ k. d (suc k)) (λ k. e (suc k)) (λ k. f (suc k)) (λ k near. each (suc k) (omega arith)))
