-- The numbers of pairs, and what they say of their workers.
use Rattle.std.proofs.Common.{◌≡◌, ◌≢◌, ℕ, ◌+◌, ◌-◌, ◌*◌, ◌/◌, ◌%◌, ◌<◌, ◌≤◌, Bool, true, false, cond, ◌==◌, ◌∙◌, ap, refl, arith, lt-ltb, le-ltb, mod-lt, mul_comm, le-mul_of_pos_right, lt_of_not-le}
use Rattle.std.specs.Prelude.{nat_lt}
use Rattle.std.proofs.lemmas.Nat.{div-mul-add, mod-mul-add, mul-add-lt, mul-le, div_below}
use mathlib.Core.Logic.{dite}
use native.Mathlib.Decide.{dec_le}
use Rattle.post_table.specs.Pairs.{pair_count, pair_number, poster_of, receiver_of, turn}

-- all numbers of pairs are small
pub small_product : (a b : ℕ) → a ≤ 32 → b ≤ 32 → a * b ≤ 1024
small_product a b x y = mul-le a b 32 32 x y

-- the place of a receiver among those of a poster
place : ℕ → ℕ → ℕ
place p c = cond (nat_lt c p) c (c - 1)

place_low : (p c : ℕ) → c < p → place p c ≡ c
unfolding place
place_low p c low = ap (λ (b : Bool). cond b c (c - 1)) (lt-ltb c p low)

place_high : (p c : ℕ) → p ≤ c → place p c ≡ c - 1
unfolding place
place_high p c high = ap (λ (b : Bool). cond b c (c - 1)) (le-ltb c p high)

place_below : (w p c : ℕ) → p < w → c < w → c ≢ p → place p c < w - 1
place_below w p c near near' ne = dite (dec_le p c)
    (λ (high : p ≤ c). let e : place p c ≡ c - 1 = place_high p c high in omega arith)
    (λ (low : ¬ (p ≤ c)). let low' : c < p = lt_of_not-le low in
    let e : place p c ≡ c = place_low p c low' in
    omega arith)

number_is : (w p c : ℕ) → pair_number w p c ≡ p * (w - 1) + place p c
unfolding pair_number place
number_is w p c = refl

pub number_near : (w p c : ℕ) → p < w → c < w → c ≢ p → pair_number w p c < pair_count w
number_near w p c near near' ne =
    let h : p * (w - 1) + place p c < (w - 1) * w = mul-add-lt p (w - 1) (place p c) w near (place_below w p c near near' ne) in
    let e : (w - 1) * w ≡ w * (w - 1) = mul_comm (w - 1) w in
    let i : pair_number w p c ≡ p * (w - 1) + place p c = number_is w p c in
    omega arith

pub number_poster : (w p c : ℕ) → p < w → c < w → c ≢ p → poster_of w (pair_number w p c) ≡ p
unfolding poster_of
number_poster w p c near near' ne =
    ap (λ (k : ℕ). k / (w - 1)) (number_is w p c) ∙ div-mul-add p (w - 1) (place p c) (place_below w p c near near' ne)

skip : ℕ → ℕ → ℕ
skip at p = cond (nat_lt at p) at (at + 1)

skip_is : (p c : ℕ) → c ≢ p → skip (place p c) p ≡ c
unfolding skip
skip_is p c ne = dite (dec_le p c)
    (λ (high : p ≤ c).
    let e : place p c ≡ c - 1 = place_high p c high in
    let f : cond (nat_lt (place p c) p) (place p c) (place p c + 1) ≡ place p c + 1 = ap (λ (b : Bool). cond b (place p c) (place p c + 1)) (le-ltb (place p c) p (omega arith)) in
    omega arith)
    (λ (low : ¬ (p ≤ c)).
    let low' : c < p = lt_of_not-le low in
    let e : place p c ≡ c = place_low p c low' in
    let f : cond (nat_lt (place p c) p) (place p c) (place p c + 1) ≡ place p c = ap (λ (b : Bool). cond b (place p c) (place p c + 1)) (lt-ltb (place p c) p (omega arith)) in
    omega arith)

receiver_skips : (w k : ℕ) → receiver_of w k ≡ skip (k % (w - 1)) (k / (w - 1))
unfolding receiver_of skip
receiver_skips w k = refl

pub number_receiver : (w p c : ℕ) → p < w → c < w → c ≢ p → receiver_of w (pair_number w p c) ≡ c
number_receiver w p c near near' ne =
    let below : place p c < w - 1 = place_below w p c near near' ne in
    let k : ℕ = pair_number w p c in
    let m : k % (w - 1) ≡ place p c = ap (λ (z : ℕ). z % (w - 1)) (number_is w p c) ∙ mod-mul-add p (w - 1) (place p c) below in
    let d : k / (w - 1) ≡ p = ap (λ (z : ℕ). z / (w - 1)) (number_is w p c) ∙ div-mul-add p (w - 1) (place p c) below in
    receiver_skips w k ∙ ap (λ (z : ℕ). skip z (k / (w - 1))) m ∙ ap (λ (z : ℕ). skip (place p c) z) d ∙ skip_is p c ne

-- both workers of a pair are workers
pub poster_near : (w k : ℕ) → 2 ≤ w → k < pair_count w → poster_of w k < w
unfolding poster_of
poster_near w k two near = div_below k (w - 1) w (omega arith) near

pub receiver_near : (w k : ℕ) → 2 ≤ w → k < pair_count w → receiver_of w k < w
unfolding receiver_of
receiver_near w k two near =
    let row : k / (w - 1) < w = div_below k (w - 1) w (omega arith) near in
    let col : k % (w - 1) < w - 1 = mod-lt k (omega arith) in
    dite (dec_le (k / (w - 1)) (k % (w - 1)))
    (λ (high : k / (w - 1) ≤ k % (w - 1)).
    let f : cond (nat_lt (k % (w - 1)) (k / (w - 1))) (k % (w - 1)) (k % (w - 1) + 1) ≡ k % (w - 1) + 1 = ap (λ (b : Bool). cond b (k % (w - 1)) (k % (w - 1) + 1)) (le-ltb (k % (w - 1)) (k / (w - 1)) high) in
    omega arith)
    (λ (low : ¬ (k / (w - 1) ≤ k % (w - 1))).
    let f : cond (nat_lt (k % (w - 1)) (k / (w - 1))) (k % (w - 1)) (k % (w - 1) + 1) ≡ k % (w - 1) = ap (λ (b : Bool). cond b (k % (w - 1)) (k % (w - 1) + 1)) (lt-ltb (k % (w - 1)) (k / (w - 1)) (omega arith)) in
    omega arith)

turn_on : (b : Bool) (p c w : ℕ) → p < w → c < w → cond b p c < w
turn_on true p c w x y = x
turn_on false p c w x y = y

pub turn_near : (w word k : ℕ) → 2 ≤ w → k < pair_count w → turn w word k < w
unfolding turn
turn_near w word k two near = turn_on (word % 2 == 0) (poster_of w k) (receiver_of w k) w (poster_near w k two near) (receiver_near w k two near)

-- there are at least as many pairs as workers
pub workers_near : (w i : ℕ) → 2 ≤ w → i < w → i < pair_count w
workers_near w i two near =
    let h : i * (w - 1) + 0 < (w - 1) * w = mul-add-lt i (w - 1) 0 w near (omega arith) in
    let e : (w - 1) * w ≡ w * (w - 1) = mul_comm (w - 1) w in
    let k : i ≤ i * (w - 1) = le-mul_of_pos_right i (omega arith) in
    omega arith
