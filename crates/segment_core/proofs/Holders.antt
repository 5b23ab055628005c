-- Lemmas on ledgers: how one is kept, and what it says of the pool.
use Rattle.std.proofs.Common.{◌≡◌, ℕ, ◌+◌, ◌<◌, ◌≤◌, cond, not, ◌==◌, List, [], ◌∷◌, ◌++◌, length, refl, arith, ◌∙◌, inl, inr}
use Rattle.std.proofs.lemmas.Bool.{cases_lt}
use Rattle.std.specs.Prelude.{sum_by}
use Rattle.std.specs.List.{flat_map}
use Rattle.std.proofs.lemmas.List.Concat.{length-flat_map}
use Rattle.segment_core.proofs.Weighing.{segment_sum-append, counted_all, counted-le, counted_is, copies-blank_pages, copies_past-blank_pages, count_other_size-blank_pages}
use Rattle.std.proofs.lemmas.List.Sums.{sum_by-cons, sum_by-append}
use Rattle.segment_core.specs.Segments.{SegmentView, PoolView, segment_sum, copies, count_other_size, blank_pages}
use Rattle.segment_core.specs.Ledger.{segment_sum_all, IsLedger, KeepsLedger, MayReturn, IsPartOf}

pub segment_sum_all-append : (h : ℕ → ℕ → ℕ) (xs ys : List (List SegmentView)) → segment_sum_all h (xs ++ ys) ≡ segment_sum_all h xs + segment_sum_all h ys
segment_sum_all-append h xs ys = sum_by-append (segment_sum h) xs ys

-- the law: what all holders weigh decides whether they are a ledger
pub IsLedger-segment_sum_all : (total size : ℕ) (xs ys : List (List SegmentView)) → ((h : ℕ → ℕ → ℕ) → segment_sum_all h ys ≡ segment_sum_all h xs) → IsLedger total size xs → IsLedger total size ys
IsLedger-segment_sum_all total size xs ys same old = record {
  once = λ id below. omega (arith, same (λ i _. cond (i == id) 1 0), old.once id below);
  none = λ id past. omega (arith, same (λ i _. cond (i == id) 1 0), old.none id past);
  sized = omega (arith, same (λ _ n. cond (not (n == size)) 1 0), old.sized);
}

-- the same, whoever else holds segments
pub KeepsLedger-segment_sum_all : (xs ys : List (List SegmentView)) → ((h : ℕ → ℕ → ℕ) → segment_sum_all h ys ≡ segment_sum_all h xs) → KeepsLedger xs ys
KeepsLedger-segment_sum_all xs ys same = record {
  holds = λ total size others. IsLedger-segment_sum_all total size (xs ++ others) (ys ++ others)
      (λ h. omega (arith, segment_sum_all-append h xs others, segment_sum_all-append h ys others, same h));
}

pub segment_sum-joined : (h : ℕ → ℕ → ℕ) (hs : List (List SegmentView)) → segment_sum h (flat_map (λ ps. ps) hs) ≡ segment_sum_all h hs
segment_sum-joined h [] = refl
segment_sum-joined h (ps ∷ hs) =
    omega (arith, segment_sum-append h ps (flat_map (λ qs. qs) hs), segment_sum-joined h hs, sum_by-cons (segment_sum h) ps hs)

-- all holders of a ledger have its number of segments
pub length-IsLedger : (total size : ℕ) (hs : List (List SegmentView)) → IsLedger total size hs → sum_by length hs ≡ total
length-IsLedger total size hs ledger =
    let all : List SegmentView = flat_map (λ ps. ps) hs in
    let known : (id : ℕ) → total ≤ id → copies id all ≡ 0 = λ id past. segment_sum-joined (λ i _. cond (i == id) 1 0) hs ∙ ledger.none id past in
    let once : (id : ℕ) → id < total → copies id all ≡ 1 = λ id below. segment_sum-joined (λ i _. cond (i == id) 1 0) hs ∙ ledger.once id below in
    omega (arith, counted_all total all known, counted_is total all once, length-flat_map (λ (ps : List SegmentView). ps) hs)

-- where the pool holds every segment, all are free
pub length-free : (pool : PoolView) → IsLedger pool.total pool.size (pool.free ∷ []) → length pool.free ≡ pool.total
length-free pool ledger = omega (arith, length-IsLedger pool.total pool.size (pool.free ∷ []) ledger)

-- what stands in a pool's ledger beside its free segments may go back to it
pub MayReturn-IsLedger : (pool : PoolView) (pages : List SegmentView) (others : List (List SegmentView)) → IsLedger pool.total pool.size (pool.free ∷ pages ∷ others) → MayReturn pool pages
MayReturn-IsLedger pool pages others ledger = record {
  sized = omega (arith, ledger.sized, parts (λ _ n. cond (not (n == pool.size)) 1 0));
  known = λ id past. omega (arith, ledger.none id past, parts (λ i _. cond (i == id) 1 0));
  once = λ id. elim (cases_lt id pool.total) [
    | inl below ↦ omega (arith, ledger.once id below, parts (λ i _. cond (i == id) 1 0))
    | inr past ↦ omega (arith, ledger.none id past, parts (λ i _. cond (i == id) 1 0))
  ];
}
  where
    parts : (h : ℕ → ℕ → ℕ) → segment_sum_all h (pool.free ∷ pages ∷ others) ≡ segment_sum h pool.free + (segment_sum h pages + segment_sum_all h others)
    parts h = omega (arith, sum_by-cons (segment_sum h) pool.free (pages ∷ others), sum_by-cons (segment_sum h) pages others)

-- a new pool's ledger
pub IsLedger-blank_pages : (count size : ℕ) → IsLedger count size (blank_pages count size ∷ [])
IsLedger-blank_pages count size = record {
  once = λ id below. omega (arith, copies-blank_pages size id 0 count (omega arith) (omega arith));
  none = λ id past. omega (arith, copies_past-blank_pages size id 0 count (omega arith));
  sized = omega (arith, count_other_size-blank_pages size 0 count);
}

-- pages that weigh no more than a pool's are the pool's
pub IsPartOf-segment_sum : (total size : ℕ) (ps qs : List SegmentView) → ((h : ℕ → ℕ → ℕ) → segment_sum h qs ≤ segment_sum h ps) → IsPartOf total size ps → IsPartOf total size qs
IsPartOf-segment_sum total size ps qs less part = record {
  sized = omega (arith, less (λ _ n. cond (not (n == size)) 1 0), part.sized);
  known = λ id past. omega (arith, less (λ i _. cond (i == id) 1 0), part.known id past);
  once = λ id. omega (arith, less (λ i _. cond (i == id) 1 0), part.once id);
}

-- the free segments and those that may go back are a pool's together
pub IsPartOf-MayReturn : (pool : PoolView) (pages : List SegmentView) → IsPartOf pool.total pool.size pool.free → MayReturn pool pages → IsPartOf pool.total pool.size (pool.free ++ pages)
IsPartOf-MayReturn pool pages part may = record {
  sized = omega (arith, segment_sum-append (λ _ n. cond (not (n == pool.size)) 1 0) pool.free pages, part.sized, may.sized);
  known = λ id past. omega (arith, segment_sum-append (λ i _. cond (i == id) 1 0) pool.free pages, part.known id past, may.known id past);
  once = λ id. omega (arith, segment_sum-append (λ i _. cond (i == id) 1 0) pool.free pages, may.once id);
}

-- a pool has no more segments than its total
pub length-IsPartOf : (total size : ℕ) (pages : List SegmentView) → IsPartOf total size pages → length pages ≤ total
length-IsPartOf total size pages part = omega (arith, counted_all total pages part.known, counted-le total pages part.once)

-- the segments of a ledger's holder are the pool's
pub IsPartOf-IsLedger : (total size : ℕ) (pages : List SegmentView) (others : List (List SegmentView)) → IsLedger total size (pages ∷ others) → IsPartOf total size pages
IsPartOf-IsLedger total size pages others ledger = record {
  sized = omega (arith, ledger.sized, sum_by-cons (count_other_size size) pages others);
  known = λ id past. omega (arith, ledger.none id past, sum_by-cons (copies id) pages others);
  once = λ id. elim (cases_lt id total) [
    | inl below ↦ omega (arith, ledger.once id below, sum_by-cons (copies id) pages others)
    | inr past ↦ omega (arith, ledger.none id past, sum_by-cons (copies id) pages others)
  ];
}

-- pages that weigh what others weigh may go back where those may
pub MayReturn-segment_sum : (pool : PoolView) (ps qs : List SegmentView) → ((h : ℕ → ℕ → ℕ) → segment_sum h qs ≡ segment_sum h ps) → MayReturn pool ps → MayReturn pool qs
MayReturn-segment_sum pool ps qs same may = record {
  sized = omega (arith, same (λ _ n. cond (not (n == pool.size)) 1 0), may.sized);
  known = λ id past. omega (arith, same (λ i _. cond (i == id) 1 0), may.known id past);
  once = λ id. omega (arith, same (λ i _. cond (i == id) 1 0), may.once id);
}

-- what was taken out of a pool's free segments may go back to them
pub MayReturn-IsPartOf : (total size : ℕ) (free rest taken : List SegmentView) → ((h : ℕ → ℕ → ℕ) → segment_sum h rest + segment_sum h taken ≡ segment_sum h free) → IsPartOf total size free → MayReturn (record { total = total; size = size; free = rest }) taken
MayReturn-IsPartOf total size free rest taken weighs part = record {
  sized = omega (arith, weighs (λ _ n. cond (not (n == size)) 1 0), part.sized);
  known = λ id past. omega (arith, weighs (λ i _. cond (i == id) 1 0), part.known id past);
  once = λ id. omega (arith, weighs (λ i _. cond (i == id) 1 0), part.once id);
}
