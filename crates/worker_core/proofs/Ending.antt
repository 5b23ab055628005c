-- A lot beside a worker's that stays when the worker ends.
use Rattle.std.proofs.Common.{◌≡◌, ℕ, zero, suc, ◌+◌, ◌<◌, ◌≤◌, Bool, List, [], ◌∷◌, ◌++◌, length, map, sum_by, Option, Some, None, refl, sym, ap, ◌∙◌, subst, arith, length-append}
use Rattle.std.proofs.lemmas.List.Sums.{sum_by-append, sum_by-cons}
use Rattle.segment_core.specs.Segments.{PurseView, SegmentView, count_other_size}
use Rattle.flow_outside.specs.Blocks.{Blocks, BothTold, IsLive}
use Rattle.flow_outside.specs.Told.{IfTold}
use Rattle.flow_types.specs.Records.{form}
use Rattle.flow_types.specs.Types.{Fields}
use Rattle.lot_store.specs.Lots.{LotView, held}
use Rattle.lot_store.specs.Storage.{IsReadyAt, Preserves, SparesBlocks, Stand, StandsAt, StaysStanding, lot_at, owners, times_in}
use Rattle.lot_store.proofs.StorageBlocks.{IsKeptLot, kept_lot, owned_lives, same_times}
use Rattle.row_pipe.specs.Pipes.{HoldsTuples}
use Rattle.worker_storage.specs.Storages.{HoldsSome, KeepsStorage, Storage, view_of, with_lot}
use Rattle.worker_core.specs.Workers.{SparesBeside, StaysBeside, tuples_in}
use Rattle.worker_core.proofs.Passing.{rows_are}

sum_more : (f : LotView → ℕ) (ys : List LotView) (l : LotView) → sum_by f (ys ++ l ∷ []) ≡ sum_by f ys + f l
sum_more f ys l = omega (arith, sum_by-append f ys (l ∷ []), sum_by-cons f l [])

lot_in_front : (ys : List LotView) (l : LotView) (k : ℕ) (d : LotView) → k < length ys → lot_at (ys ++ l ∷ []) k d ≡ lot_at ys k d
lot_in_front [] l k d low = absurd (omega (arith, low))
lot_in_front (y ∷ ys) l zero d low = refl
lot_in_front (y ∷ ys) l (suc k) d low = lot_in_front ys l k d (omega (arith, low))

lot_behind : (ys : List LotView) (l d : LotView) → lot_at (ys ++ l ∷ []) (length ys) d ≡ l
lot_behind [] l d = refl
lot_behind (y ∷ ys) l d = lot_behind ys l d

module _ (size : ℕ) (pages : List SegmentView) (lots lots_now : List LotView) (l : LotView) (written : List ℕ) (tidy : Bool) (m n : Blocks)
    (s : Stand size pages (lots ++ l ∷ []) m) (spares : SparesBlocks lots lots_now written tidy m n) (none : held l ≡ []) where
  -- its blocks are as they were
  same_block : (block : ℕ) → 0 < times_in m block l → n block ≡ m block
  same_block block owned =
      let sum : owners m block (lots ++ l ∷ []) ≡ owners m block lots + times_in m block l = sum_more (times_in m block) lots l in
      let live : IsLive m block = owned_lives m size block (lots ++ l ∷ []) l s.each (omega (arith, owned, sum)) in
      let nobody : owners m block lots ≡ 0 = omega (arith, owned, sum, s.apart block) in
      (spares.others block live nobody).0

  pub kept : IsKeptLot size l m n
  kept = kept_lot m n size l (subst (StandsAt size m) (lot_behind lots l l) (s.each (length lots) l (omega (arith, length-append lots (l ∷ []))))) same_block

  pub stands_alone : Stand size [] (l ∷ []) n
  stands_alone = record {
    sized = let own : count_other_size size (held l) ≡ 0 = ap (count_other_size size) none in omega (arith, own, sum_by-cons (λ (lot : LotView). count_other_size size (held lot)) l []);
    each = at;
    apart = λ block. omega (arith, s.apart block, sum_more (times_in m block) lots l, same_times m n block l.stored.run same_block, sum_by-cons (times_in n block) l []);
  }
    where
      at : (i : ℕ) (d : LotView) → i < length (l ∷ []) → StandsAt size n (lot_at (l ∷ []) i d)
      at zero d low = kept.stands
      at (suc i) d low = absurd (omega (arith, low))

  pub holds_still : (fields : Fields) → HoldsSome fields l m → HoldsSome fields l n × (tuples_in fields (Some n) l ≡ tuples_in fields (Some m) l)
  holds_still fields (rows, holds) =
      let still : HoldsTuples fields n l rows = record { records = kept.holds (map form rows) holds.records; fitting = holds.fitting } in
      ((rows, still), rows_are fields n l rows still ∙ sym (rows_are fields m l rows holds))

front : (size : ℕ) (pages : List SegmentView) (lots : List LotView) (l : LotView) (m : Blocks) → Stand size pages (lots ++ l ∷ []) m → Stand size pages lots m
front size pages lots l m s = record {
  sized = omega (arith, s.sized, sum_more (λ (lot : LotView). count_other_size size (held lot)) lots l);
  each = λ k d low. subst (StandsAt size m) (lot_in_front lots l k d low) (s.each k d (omega (arith, low, length-append lots (l ∷ []))));
  apart = λ block. omega (arith, s.apart block, sum_more (times_in m block) lots l);
}

-- So it is whatever is told.
pub spares_beside : {D : Type 0} (told : D → Option Blocks) (a b : Storage D) (disk : D) (ts ws : List ℕ) (tidy : Bool) → disk ≡ b.disk → KeepsStorage told a b ts ws tidy → SparesBeside told a disk
spares_beside {D} told a b disk ts ws tidy is keeps = λ lot none ready.
    subst (λ d. StaysBeside told a d lot) (sym is) (record {
      stands = at_stands lot none (told a.disk) (told b.disk) ready.stand keeps.preserves.told;
      same = λ fields. at_same lot none fields (told a.disk) (told b.disk) ready.stand keeps.preserves.told;
    })
  where
    at_stands : (lot : LotView) → held lot ≡ [] → (t u : Option Blocks) → IfTold t (Stand a.size a.purse.pages (a.lots ++ lot ∷ [])) → BothTold t u (StaysStanding (view_of told a) (view_of told b) ws tidy) → IfTold u (Stand a.size [] (lot ∷ []))
    at_stands lot none None None s stays = tt
    at_stands lot none None (Some n) s stays = absurd stays
    at_stands lot none (Some m) None s stays = tt
    at_stands lot none (Some m) (Some n) s stays = stands_alone a.size a.purse.pages a.lots b.lots lot ws tidy m n s (stays.spares a.size (front a.size a.purse.pages a.lots lot m s)) none

    at_same : (lot : LotView) → held lot ≡ [] → (fields : Fields) (t u : Option Blocks) → IfTold t (Stand a.size a.purse.pages (a.lots ++ lot ∷ [])) → BothTold t u (StaysStanding (view_of told a) (view_of told b) ws tidy)
        → IfTold t (HoldsSome fields lot) → IfTold u (HoldsSome fields lot) × (tuples_in fields u lot ≡ tuples_in fields t lot)
    at_same lot none fields None None s stays holds = (tt, refl)
    at_same lot none fields None (Some n) s stays holds = absurd stays
    at_same lot none fields (Some m) None s stays holds = absurd stays
    at_same lot none fields (Some m) (Some n) s stays holds = holds_still a.size a.purse.pages a.lots b.lots lot ws tidy m n s (stays.spares a.size (front a.size a.purse.pages a.lots lot m s)) none fields holds
