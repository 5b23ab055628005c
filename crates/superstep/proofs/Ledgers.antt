-- An engine's segments: each stands once, wherever they go.
use Rattle.std.proofs.Common.{◌≡◌, ℕ, ◌+◌, List, [], ◌∷◌, map, cond, not, ◌==◌, refl, sym, ap, ◌∙◌, subst, arith}
use Rattle.std.specs.Prelude.{Option}
use Rattle.std.proofs.lemmas.List.Sums.{sum_by-cons}
use Rattle.segment_core.specs.Segments.{PoolView, PurseView, SegmentView, blank_pages, count_other_size, segment_sum}
use Rattle.segment_core.specs.Ledger.{IsLedger, KeepsLedger, Leases, MayReturn, segment_sum_all}
use Rattle.segment_core.proofs.Holders.{IsLedger-segment_sum_all, MayReturn-IsLedger}
use Rattle.segment_core.proofs.Weighing.{count_other_size-blank_pages}
use Rattle.flow_outside.specs.Blocks.{Blocks}
use Rattle.flow_model.specs.declared.plan.Plan.{Plan}
use Rattle.plan_need.specs.declared.budget.Allot.{Allot}
use Rattle.lot_store.specs.Lots.{LotView, held}
use Rattle.lot_store.specs.Storage.{held_sum}
use Rattle.worker_storage.specs.Storages.{Storage}
use Rattle.worker_core.specs.Workers.{IsNew, WorkerView}
use Rattle.superstep.specs.Opening.{IsAccounted, IsAllFree, IsCrew, IsServing, worker_sum}

lots_sum : (h : ℕ → ℕ → ℕ) (lots : List LotView) → segment_sum_all h (map held lots) ≡ held_sum h lots
lots_sum h [] = refl
lots_sum h (lot ∷ lots) =
    omega (arith, sum_by-cons (segment_sum h) (held lot) (map held lots), sum_by-cons (λ (l : LotView). segment_sum h (held l)) lot lots, lots_sum h lots)

-- what all holders of an engine's segments weigh
holders_sum : {D : Type 0} (h : ℕ → ℕ → ℕ) (free : List SegmentView) (s : Storage D) → segment_sum_all h (free ∷ s.purse.pages ∷ map held s.lots) ≡ segment_sum h free + worker_sum h s
holders_sum h free s =
    omega (arith, sum_by-cons (segment_sum h) free (s.purse.pages ∷ map held s.lots), sum_by-cons (segment_sum h) s.purse.pages (map held s.lots), lots_sum h s.lots)

two_sum : (h : ℕ → ℕ → ℕ) (free pages : List SegmentView) → segment_sum_all h (free ∷ pages ∷ []) ≡ segment_sum h free + segment_sum h pages
two_sum h free pages = omega (arith, sum_by-cons (segment_sum h) free (pages ∷ []), sum_by-cons (segment_sum h) pages [])

-- A worker whose segments weigh the same has the same.
pub still_accounted : {D : Type 0} (pool : PoolView) (s r : Storage D) → ((h : ℕ → ℕ → ℕ) → worker_sum h r ≡ worker_sum h s) → IsAccounted pool s → IsAccounted pool r
still_accounted pool s r same ledger =
    IsLedger-segment_sum_all pool.total pool.size (pool.free ∷ s.purse.pages ∷ map held s.lots) (pool.free ∷ r.purse.pages ∷ map held r.lots)
    (λ h. omega (arith, holders_sum h pool.free s, holders_sum h pool.free r, same h)) ledger

-- The segments that a worker gave when it ended are those that it held.
pub gave_all : {D : Type 0} (pool : PoolView) (s : Storage D) (pages : List SegmentView) → ((h : ℕ → ℕ → ℕ) → segment_sum h pages ≡ worker_sum h s) → IsAccounted pool s → IsLedger pool.total pool.size (pool.free ∷ pages ∷ [])
gave_all pool s pages same ledger =
    IsLedger-segment_sum_all pool.total pool.size (pool.free ∷ s.purse.pages ∷ map held s.lots) (pool.free ∷ pages ∷ [])
    (λ h. omega (arith, holders_sum h pool.free s, two_sum h pool.free pages, same h)) ledger

pub may_return : (pool : PoolView) (pages : List SegmentView) → IsLedger pool.total pool.size (pool.free ∷ pages ∷ []) → MayReturn pool pages
may_return pool pages ledger = MayReturn-IsLedger pool pages [] ledger

-- They went back, and all are free.
pub all_back : (pool now : PoolView) (pages : List SegmentView) → now.total ≡ pool.total → now.size ≡ pool.size → KeepsLedger (pool.free ∷ pages ∷ []) (now.free ∷ []) → IsLedger pool.total pool.size (pool.free ∷ pages ∷ []) → IsAllFree now
all_back pool now pages total size keeps ledger =
    subst (λ n. IsLedger n now.size (now.free ∷ [])) (sym total)
    (subst (λ n. IsLedger pool.total n (now.free ∷ [])) (sym size) (keeps.holds pool.total pool.size [] ledger))

-- Some were leased of a pool whose segments all were free.
pub leased : (pool now : PoolView) (purse : PurseView) → now.total ≡ pool.total → now.size ≡ pool.size → Leases pool now purse → IsAllFree pool → IsLedger now.total now.size (now.free ∷ purse.pages ∷ [])
leased pool now purse total size leases ledger =
    subst (λ n. IsLedger n now.size (now.free ∷ purse.pages ∷ [])) (sym total)
    (subst (λ n. IsLedger pool.total n (now.free ∷ purse.pages ∷ [])) (sym size) (leases.ledger.holds pool.total pool.size [] ledger))

-- what was leased has the pool's size
pub leased_size : (pool now : PoolView) (purse : PurseView) → Leases pool now purse → count_other_size pool.size pool.free ≡ 0 → count_other_size pool.size purse.pages ≡ 0
leased_size pool now purse leases none = omega (arith, leases.segments (λ _ n. cond (not (n == pool.size)) 1 0), none)

pub all_sized : (pool : PoolView) → IsAllFree pool → count_other_size pool.size pool.free ≡ 0
all_sized pool ledger = omega (arith, ledger.sized, sum_by-cons (count_other_size pool.size) pool.free [])

-- other pages that weigh the same
pub same_weight : (pool : PoolView) (pages rest : List SegmentView) → ((h : ℕ → ℕ → ℕ) → segment_sum h rest ≡ segment_sum h pages) → IsLedger pool.total pool.size (pool.free ∷ pages ∷ []) → IsLedger pool.total pool.size (pool.free ∷ rest ∷ [])
same_weight pool pages rest same ledger =
    IsLedger-segment_sum_all pool.total pool.size (pool.free ∷ pages ∷ []) (pool.free ∷ rest ∷ []) (λ h. omega (arith, two_sum h pool.free pages, two_sum h pool.free rest, same h)) ledger

-- ---- a new crew

module _ (plan : Plan) (allot : Allot) (serving : IsServing plan allot) where
  pub segment_is : allot.segment ≡ plan.segment
  segment_is = ap (λ (a : Allot). a.segment) serving.allotted.is

  -- the segments of a share that was leased of a new pool
  pub share_sized : (pool now : PoolView) (purse : PurseView) → pool ≡ record { total = allot.total; size = allot.segment; free = blank_pages allot.total allot.segment } → Leases pool now purse → count_other_size plan.segment purse.pages ≡ 0
  share_sized pool now purse is leases =
      subst (λ n. count_other_size n purse.pages ≡ 0) (ap (λ (p : PoolView). p.size) is ∙ segment_is)
      (leased_size pool now purse leases (subst (λ (p : PoolView). count_other_size p.size p.free ≡ 0) (sym is) (count_other_size-blank_pages allot.segment 0 allot.total)))

pub is_crew : {D : Type 0} (told : D → Option Blocks) (plan : Plan) (allot : Allot) (disk : D) (pool now : PoolView) (purse : PurseView) (w : WorkerView D) → IsServing plan allot
    → pool ≡ record { total = allot.total; size = allot.segment; free = blank_pages allot.total allot.segment } → now.total ≡ pool.total → now.size ≡ pool.size → IsAllFree pool → Leases pool now purse → IsNew told plan allot 0 purse disk w → IsCrew told plan allot disk now w
is_crew told plan allot disk pool now purse w serving is total size ledger leases new = record {
  total = total ∙ ap (λ (p : PoolView). p.total) is;
  size = size ∙ ap (λ (p : PoolView). p.size) is ∙ segment_is plan allot serving;
  accounted = IsLedger-segment_sum_all now.total now.size (now.free ∷ purse.pages ∷ []) (now.free ∷ w.storage.purse.pages ∷ map held w.storage.lots)
      (λ h. omega (arith, holders_sum h now.free w.storage, two_sum h now.free purse.pages, new.held h, ap (λ (p : PurseView). segment_sum h p.pages) new.purse)) (leased pool now purse total size leases ledger);
  me = new.me;
  disk = new.disk;
  sound = new.sound;
  rows = new.rows;
}
