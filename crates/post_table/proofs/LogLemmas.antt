-- What stands of one pair in a log that was cut, joined or grew, and who is among some workers.
use Rattle.std.proofs.Common.{◌≡◌, ◌≢◌, ℕ, zero, suc, ◌+◌, ◌<◌, Bool, true, false, cond, not, ◌==◌, ◌||◌, ◌&&◌, List, [], ◌∷◌, ◌++◌, ◌∙◌, ap, sym, length, filter, refl, arith, append_assoc, append-nil, true≢false, eqb-true, eq-eqb, ne_eqb}
use Rattle.std.proofs.lemmas.List.{map-append}
use Rattle.std.proofs.lemmas.List.Elements.{filter-append}
use Rattle.std.proofs.lemmas.List.Sums.{sum_by-append}
use Rattle.post_table.specs.Pairs.{workers_below}
use Rattle.post_table.specs.Views.{Log, of_pair, pages_of, is_among, weigh_in, weigh_out}
use Rattle.post_table.specs.Rule.{BeginsWith, last_in}
use Rattle.post_table.specs.declared.view.Moved.{Moved}

abbrev no_entries : Log
no_entries = []

cond_nil : (b : Bool) → no_entries ≡ cond b [] []
cond_nil true = refl
cond_nil false = refl

-- an entry whose pair passes stays in the log that is cut
kept : (d e : Bool) (m : Moved) (H G : Log) → (d ≡ true → e ≡ true) → H ≡ cond e G [] → cond d (m ∷ H) H ≡ cond e (cond d (m ∷ G) G) []
kept true true m H G s ih = ap (λ (l : Log). m ∷ l) ih
kept true false m H G s ih = absurd (true≢false (sym (s refl)))
kept false true m H G s ih = ih
kept false false m H G s ih = ih

-- and one whose pair doesn't pass leaves it
dropped : (d e : Bool) (m : Moved) (H G : Log) → (d ≡ true → e ≡ false) → H ≡ cond e G [] → H ≡ cond e (cond d (m ∷ G) G) []
dropped true true m H G s ih = absurd (true≢false (s refl))
dropped true false m H G s ih = ih
dropped false true m H G s ih = ih
dropped false false m H G s ih = ih

-- of a log that was cut by a test on pairs, all of the pair stays where it passes, and else nothing
pub of_pair-filter : (q : ℕ → Bool) (k : ℕ) (log : Log) → of_pair k (filter (λ (m : Moved). q m.pair) log) ≡ cond (q k) (of_pair k log) []
of_pair-filter q k [] = cond_nil (q k)
of_pair-filter q k (m ∷ log) = go (q m.pair) refl (of_pair-filter q k log)
  where
    go : (b : Bool) → q m.pair ≡ b → of_pair k (filter (λ (n : Moved). q n.pair) log) ≡ cond (q k) (of_pair k log) []
        → of_pair k (cond b (m ∷ filter (λ (n : Moved). q n.pair) log) (filter (λ (n : Moved). q n.pair) log)) ≡ cond (q k) (cond (m.pair == k) (m ∷ of_pair k log) (of_pair k log)) []
    go true is ih = kept (m.pair == k) (q k) m (of_pair k (filter (λ (n : Moved). q n.pair) log)) (of_pair k log) (λ t. ap q (sym (eqb-true m.pair k t)) ∙ is) ih
    go false is ih = dropped (m.pair == k) (q k) m (of_pair k (filter (λ (n : Moved). q n.pair) log)) (of_pair k log) (λ t. ap q (sym (eqb-true m.pair k t)) ∙ is) ih

pub of_pair-append : (k : ℕ) (a b : Log) → of_pair k (a ++ b) ≡ of_pair k a ++ of_pair k b
of_pair-append k a b = filter-append (λ (m : Moved). m.pair == k) a b

-- one entry more
pub of_pair-more : (k : ℕ) (log : Log) (m : Moved) → m.pair ≡ k → of_pair k (log ++ m ∷ []) ≡ of_pair k log ++ m ∷ []
of_pair-more k log m is =
    of_pair-append k log (m ∷ []) ∙ ap (λ (b : Bool). of_pair k log ++ cond b (m ∷ []) []) (eq-eqb m.pair k is)

pub of_pair-other : (k : ℕ) (log : Log) (m : Moved) → m.pair ≢ k → of_pair k (log ++ m ∷ []) ≡ of_pair k log
of_pair-other k log m other =
    of_pair-append k log (m ∷ []) ∙ ap (λ (b : Bool). of_pair k log ++ cond b (m ∷ []) []) (ne_eqb m.pair k other) ∙ append-nil (of_pair k log)

pub pages-more : (log : Log) (m : Moved) → pages_of (log ++ m ∷ []) ≡ pages_of log ++ m.bytes ∷ []
pages-more log m = map-append (λ (x : Moved). x.bytes) log (m ∷ [])

pub length-pages : (log : Log) → length (pages_of log) ≡ length log
length-pages [] = refl
length-pages (m ∷ log) = ap suc (length-pages log)

pub last_in-more : (id : ℕ) (log : Log) (m : Moved) → last_in id (log ++ m ∷ []) ≡ m.went_in
last_in-more id [] m = refl
last_in-more id (x ∷ log) m = last_in-more x.went_in log m

sum-one : (n : ℕ) → 0 + n ≡ n
sum-one n = omega arith

pub weigh_in-more : (h : ℕ → ℕ) (log : Log) (m : Moved) → weigh_in h (log ++ m ∷ []) ≡ weigh_in h log + h m.went_in
weigh_in-more h log m =
    sum_by-append (λ (x : Moved). h x.went_in) log (m ∷ []) ∙ ap (λ (n : ℕ). weigh_in h log + n) (sum-one (h m.went_in))

pub weigh_out-more : (h : ℕ → ℕ) (log : Log) (m : Moved) → weigh_out h (log ++ m ∷ []) ≡ weigh_out h log + h m.came_out
weigh_out-more h log m =
    sum_by-append (λ (x : Moved). h x.came_out) log (m ∷ []) ∙ ap (λ (n : ℕ). weigh_out h log + n) (sum-one (h m.came_out))

-- what is known of a list stays a prefix while it grows
pub begins_all : (log : Log) → BeginsWith log log
begins_all log = record { rest = []; is = sym (append-nil log) }

pub begins_more : (known whole more : Log) → BeginsWith known whole → BeginsWith known (whole ++ more)
begins_more known whole more b = record { rest = b.rest ++ more; is = ap (λ (l : Log). l ++ more) b.is ∙ append_assoc known b.rest more }

pub begins_nil : (whole : Log) → BeginsWith [] whole
begins_nil whole = record { rest = whole; is = refl }

pub begins_on : (known a b : Log) → BeginsWith known a → BeginsWith a b → BeginsWith known b
begins_on known a b x y = record { rest = x.rest ++ y.rest; is = y.is ∙ ap (λ (l : Log). l ++ y.rest) x.is ∙ append_assoc known x.rest y.rest }

or_assoc : (a b c r : Bool) → r ≡ (b || c) → (a || r) ≡ ((a || b) || c)
or_assoc true b c r e = refl
or_assoc false b c r e = e

pub among-append : (i : ℕ) (xs ys : List ℕ) → is_among i (xs ++ ys) ≡ (is_among i xs || is_among i ys)
among-append i [] ys = refl
among-append i (x ∷ xs) ys = or_assoc (i == x) (is_among i xs) (is_among i ys) _ (among-append i xs ys)

and_false : (y : Bool) → (y && false) ≡ false
and_false true = refl
and_false false = refl

-- marking a worker out, at one more worker that stays or leaves
stays_in : (a b f : Bool) (r : Bool) → (a ≡ true → f ≡ false) → r ≡ (b && not f) → (a || r) ≡ ((a || b) && not f)
stays_in true b true r s e = absurd (true≢false (s refl))
stays_in true b false r s e = refl
stays_in false b f r s e = e

goes_out : (a b f : Bool) (r : Bool) → (a ≡ true → f ≡ true) → r ≡ (b && not f) → r ≡ ((a || b) && not f)
goes_out true b true r s e = e ∙ and_false b
goes_out true b false r s e = absurd (true≢false (sym (s refl)))
goes_out false b f r s e = e

pub among-without : (i n : ℕ) (xs : List ℕ) → is_among i (filter (λ (x : ℕ). not (x == n)) xs) ≡ (is_among i xs && not (i == n))
among-without i n [] = refl
among-without i n (x ∷ xs) = go (x == n) refl (among-without i n xs)
  where
    go : (t : Bool) → (x == n) ≡ t → is_among i (filter (λ (y : ℕ). not (y == n)) xs) ≡ (is_among i xs && not (i == n))
        → is_among i (cond (not t) (x ∷ filter (λ (y : ℕ). not (y == n)) xs) (filter (λ (y : ℕ). not (y == n)) xs)) ≡ (((i == x) || is_among i xs) && not (i == n))
    go true is e = goes_out (i == x) (is_among i xs) (i == n) _ (λ a. ap (λ (y : ℕ). y == n) (eqb-true i x a) ∙ is) e
    go false is e = stays_in (i == x) (is_among i xs) (i == n) _ (λ a. ap (λ (y : ℕ). y == n) (eqb-true i x a) ∙ is) e

or_false : (b : Bool) → (b || false) ≡ b
or_false true = refl
or_false false = refl

pub among-one : (i n : ℕ) → is_among i (n ∷ []) ≡ (i == n)
among-one i n = or_false (i == n)

pub among_one-is : (i n : ℕ) → is_among i (n ∷ []) ≡ true → i ≡ n
among_one-is i n e = eqb-true i n (sym (among-one i n) ∙ e)

pub among_one-here : (n : ℕ) → is_among n (n ∷ []) ≡ true
among_one-here n = among-one n n ∙ eq-eqb n n refl

lower : (i n : ℕ) → i < suc n → (i == n) ≡ false → i < n
lower i n near e = let differ : i ≢ n = λ same. true≢false (sym (eq-eqb i n same) ∙ e) in omega arith

pub among-below : (n i : ℕ) → i < n → is_among i (workers_below n) ≡ true
among-below zero i near = absurd (omega arith)
among-below (suc n) i near = go (i == n) refl (among-below n i)
  where
    go : (b : Bool) → (i == n) ≡ b → (i < n → is_among i (workers_below n) ≡ true) → (b || is_among i (workers_below n)) ≡ true
    go true is ih = refl
    go false is ih = ih (lower i n near is)

pub below-among : (n i : ℕ) → is_among i (workers_below n) ≡ true → i < n
below-among zero i e = absurd (true≢false (sym e))
below-among (suc n) i e = go (i == n) refl e (below-among n i)
  where
    go : (b : Bool) → (i == n) ≡ b → (b || is_among i (workers_below n)) ≡ true → (is_among i (workers_below n) ≡ true → i < n) → i < suc n
    go true is t ih = let same : i ≡ n = eqb-true i n is in omega arith
    go false is t ih = let below : i < n = ih t in omega arith
