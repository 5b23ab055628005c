-- What moved to the purse and what stays free weigh together what was free.
use Rattle.std.proofs.Common.{◌≡◌, ℕ, ◌+◌, ◌++◌, List, [], reverse, arith, ap, sym, ◌∙◌, append-nil}
use Rattle.segment_core.specs.Segments.{SegmentView, PoolView, PurseView, segment_sum}
use Rattle.segment_core.proofs.Weighing.{segment_sum-moved}
use Rattle.segment_core.proofs.Holders.{IsPartOf-segment_sum, MayReturn-IsPartOf, KeepsLedger-segment_sum_all}
use Rattle.segment_core.proofs.pool.Pool.lease.Goals as goal

leased : (total size room : ℕ) (free none rest moved : List SegmentView) (old : PoolView) (purse : PurseView) → record { total = total; size = size; free = free } ≡ old → none ≡ [] → rest ++ reverse moved ≡ free ++ reverse none → purse ≡ record { room = room; pages = moved } → (h : ℕ → ℕ → ℕ) → segment_sum h rest + segment_sum h purse.pages ≡ segment_sum h old.free
leased total size room free none rest moved old purse pool empty zip held h =
    omega (arith, segment_sum-moved h free none rest moved zip, ap (segment_sum h) empty, ap (λ (v : PurseView). segment_sum h v.pages) held, ap (λ (v : PoolView). segment_sum h v.free) pool)

went_out : (total size room : ℕ) (free none rest moved : List SegmentView) (old : PoolView) (purse : PurseView) → record { total = total; size = size; free = free } ≡ old → none ≡ [] → rest ++ reverse moved ≡ free ++ reverse none → purse ≡ record { room = room; pages = moved } → old.free ≡ rest ++ reverse purse.pages
went_out total size room free none rest moved old purse pool empty zip held =
    sym (ap (λ (v : PoolView). v.free) pool) ∙ sym (append-nil free) ∙ ap (λ xs. free ++ reverse xs) (sym empty) ∙ sym zip ∙ ap (λ (v : PurseView). rest ++ reverse v.pages) (sym held)

pub returns-clause-leases : goal.returns-clause-leases
returns-clause-leases c =
    let weighs : (h : ℕ → ℕ → ℕ) → segment_sum h c.move_last.new.from.items + segment_sum h c.of_items.result.pages ≡ segment_sum h c.args.self.now.free = leased _ _ _ _ _ _ _ _ _ c.self.view_is c.in-Ok.ensures.items c.move_last.ensures.moved c.of_items.ensures.purse in
    record {
      moved = went_out _ _ _ _ _ _ _ _ _ c.self.view_is c.in-Ok.ensures.items c.move_last.ensures.moved c.of_items.ensures.purse;
      segments = weighs;
      ledger = KeepsLedger-segment_sum_all _ _ (λ h. omega (arith, weighs h));
    }

pub returns-clause-may_return : goal.returns-clause-may_return
returns-clause-may_return c =
    let weighs : (h : ℕ → ℕ → ℕ) → segment_sum h c.move_last.new.from.items + segment_sum h c.of_items.result.pages ≡ segment_sum h c.args.self.now.free = leased _ _ _ _ _ _ _ _ _ c.self.view_is c.in-Ok.ensures.items c.move_last.ensures.moved c.of_items.ensures.purse in
    MayReturn-IsPartOf c.self.inside.total c.self.inside.size c.self.inside.free.items _ _ (λ h. omega (arith, weighs h, ap (λ (v : PoolView). segment_sum h v.free) c.self.view_is)) c.self.invariant.own

pub invariant_of-self : goal.invariant_of-self
invariant_of-self c =
    let weighs : (h : ℕ → ℕ → ℕ) → segment_sum h c.move_last.new.from.items + segment_sum h c.of_items.result.pages ≡ segment_sum h c.args.self.now.free = leased _ _ _ _ _ _ _ _ _ c.self.view_is c.in-Ok.ensures.items c.move_last.ensures.moved c.of_items.ensures.purse in
    record {
      sized = c.self.invariant.sized;
      least = c.self.invariant.least;
      most = c.self.invariant.most;
      own = IsPartOf-segment_sum _ _ c.self.inside.free.items _ (λ h. omega (arith, weighs h, ap (λ (v : PoolView). segment_sum h v.free) c.self.view_is)) c.self.invariant.own;
      fits = omega arith;
      reserved = omega arith;
    }
