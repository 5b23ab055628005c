-- Two lots were copied into a third, one after the other.
use Rattle.std.proofs.Common.{◌≡◌, ℕ, ◌+◌, ◌≤◌, true, List, [], ◌∷◌, ◌++◌, length, Result, Ok, Err, OnOk, Option, Some, None, refl, sym, ap, ◌∙◌, subst, arith, sum_by, append_assoc}
use Rattle.std.proofs.lemmas.List.Sums.{sum_by-cons}
use Rattle.flow_outside.specs.Blocks.{Blocks, BothTold}
use Rattle.flow_outside.specs.Told.{IfTold}
use Rattle.flow_types.specs.Types.{Fields}
use Rattle.flow_types.specs.Records.{form}
use Rattle.std.specs.Prelude.{map}
use Rattle.lot_store.specs.Lots.{HoldsRows, LotView, held}
use Rattle.lot_store.specs.Rows.{Gains, rows_in, rows_of}
use Rattle.lot_store.specs.Storage.{IsReadyAt, StaysStanding, lot_at}
use Rattle.lot_store.proofs.RowsRead.{rows_read}
use Rattle.lot_store.proofs.StorageLaws.{counts_after, preserves_join, preserves_more, ready_of_at, rows_kept_on}
use Rattle.flow_outside.specs.declared.failure.StreamFault.{StreamFault}
use Rattle.row_pipe.specs.Pipes.{GivesWithin, RestsAfter}
use Rattle.row_pipe.specs.declared.work.Work.{Work}
use Rattle.worker_storage.specs.Storages.{HoldsSome, KeepsStorage, MayRead, Storage, given, view_of}
use Rattle.worked_storage.specs.Copies.{MayCopy}

three_sum : (f : LotView → ℕ) (xs : List LotView) (d : LotView) → length xs ≡ 3 → sum_by f xs ≡ f (lot_at xs 0 d) + (f (lot_at xs 1 d) + f (lot_at xs 2 d))
three_sum f [] d is = absurd (omega (arith, is))
three_sum f (x ∷ []) d is = absurd (omega (arith, is))
three_sum f (x ∷ y ∷ []) d is = absurd (omega (arith, is))
three_sum f (x ∷ y ∷ z ∷ []) d is =
    omega (arith, sum_by-cons f x (y ∷ z ∷ []), sum_by-cons f y (z ∷ []), sum_by-cons f z [])
three_sum f (x ∷ y ∷ z ∷ w ∷ xs) d is = absurd (omega (arith, is))

module _ {D : Type 0} (told : D → Option Blocks) (a b : Storage D) (three : length a.lots ≡ 3) (keeps : KeepsStorage told a b (0 ∷ 2 ∷ []) (2 ∷ []) true) where
  -- The second lot is as it was.
  second_same : (d : LotView) → lot_at b.lots 1 d ≡ lot_at a.lots 1 d
  second_same d = keeps.preserves.same 1 d ((λ is. absurd (omega (arith, is))), ((λ is. absurd (omega (arith, is))), tt))

  -- It may be read next.
  pub may_read_second : (d : LotView) → MayCopy a.purse a.lots d → length (held (lot_at b.lots 0 d)) ≤ (lot_at b.lots 0 d).stored.room → length (held (lot_at b.lots 2 d)) ≤ (lot_at b.lots 2 d).stored.room → MayRead b.purse (lot_at b.lots 1 d)
  may_read_second d may first third = record {
    supply = omega (
      arith,
      may.budget,
      may.second,
      first,
      third,
      counts_after (view_of told a) (view_of told b) (0 ∷ 2 ∷ []) (2 ∷ []) true keeps.preserves,
      three_sum (λ (l : LotView). length (held l)) b.lots d (keeps.preserves.count ∙ three),
      three_sum (λ (l : LotView). l.stored.room) a.lots d three,
      keeps.preserves.rooms 0 d,
      keeps.preserves.rooms 2 d,
      ap (λ (l : LotView). length (held l)) (second_same d),
      ap (λ (l : LotView). l.feed.reach) (second_same d),
    );
    rests = omega (arith, may.second, ap (λ (l : LotView). length (held l)) (second_same d), ap (λ (l : LotView). l.stored.room) (second_same d));
  }

  pub within_third : (d : LotView) (fields : Fields) (w : Work) → GivesWithin fields w a.size (lot_at a.lots 2 d).feed.reach → GivesWithin fields w b.size (lot_at b.lots 2 d).feed.reach
  within_third d fields w within =
      subst (λ n. GivesWithin fields w b.size n) (sym (keeps.preserves.reach 2 d)) (subst (λ n. GivesWithin fields w n (lot_at a.lots 2 d).feed.reach) (sym keeps.size) within)

  -- It holds what it held.
  rows_on : (m n : Blocks) (d : LotView) (rows : List (List ℕ)) → IsReadyAt a.size (view_of told a) → told a.disk ≡ Some m → told b.disk ≡ Some n → HoldsRows m (lot_at a.lots 1 d) rows → HoldsRows n (lot_at b.lots 1 d) rows
  rows_on m n d rows ready was now holds =
      rows_kept_on (view_of told a) (view_of told b) (0 ∷ 2 ∷ []) (2 ∷ []) true m n 1 d rows (record { ready = ready_of_at a.size (view_of told a) ready; preserves = keeps.preserves }) was now (omega (arith, three)) ((λ is. absurd (omega (arith, is))), tt) holds

  pub holds_second : (d : LotView) (fields : Fields) → IsReadyAt a.size (view_of told a) → IfTold (told a.disk) (HoldsSome fields (lot_at a.lots 1 d)) → IfTold (told b.disk) (HoldsSome fields (lot_at b.lots 1 d))
  holds_second d fields ready holds = known (told a.disk) (told b.disk) refl refl keeps.preserves.told holds
    where
      known : (t u : Option Blocks) → told a.disk ≡ t → told b.disk ≡ u → BothTold t u (StaysStanding (view_of told a) (view_of told b) (2 ∷ []) true) → IfTold t (HoldsSome fields (lot_at a.lots 1 d)) → IfTold u (HoldsSome fields (lot_at b.lots 1 d))
      known t None was now change h = tt
      known None (Some n) was now change h = absurd change
      known (Some m) (Some n) was now change (tuples, h) =
          (tuples, record { records = rows_on m n d (map form tuples) ready was now h.records; fitting = h.fitting })

  -- What it is read as is what it was read as.
  pub gains_both : {E : Type 0} (answer : Result Unit E) (v : Option Blocks) (d e : LotView) (fields : Fields) (w : Work) → IsReadyAt a.size (view_of told a) → IfTold (told a.disk) (HoldsSome fields (lot_at a.lots 1 d))
      → BothTold (told a.disk) (told b.disk) (Gains (lot_at a.lots 2 d) (lot_at b.lots 2 d) (given fields w (rows_of (told a.disk) (lot_at a.lots 0 d))))
      → OnOk answer (BothTold (told b.disk) v (Gains (lot_at b.lots 2 d) e (given fields w (rows_of (told b.disk) (lot_at b.lots 1 d)))))
      → OnOk answer (BothTold (told a.disk) v (Gains (lot_at a.lots 2 d) e (given fields w (rows_of (told a.disk) (lot_at a.lots 0 d)) ++ given fields w (rows_of (told a.disk) (lot_at a.lots 1 d)))))
  gains_both (Err fault) v d e fields w ready holds f g = tt
  gains_both (Ok done) v d e fields w ready holds f g = known (told a.disk) (told b.disk) v refl refl holds f g
    where
      known : (t u s : Option Blocks) → told a.disk ≡ t → told b.disk ≡ u → IfTold t (HoldsSome fields (lot_at a.lots 1 d))
          → BothTold t u (Gains (lot_at a.lots 2 d) (lot_at b.lots 2 d) (given fields w (rows_of t (lot_at a.lots 0 d)))) → BothTold u s (Gains (lot_at b.lots 2 d) e (given fields w (rows_of u (lot_at b.lots 1 d))))
          → BothTold t s (Gains (lot_at a.lots 2 d) e (given fields w (rows_of t (lot_at a.lots 0 d)) ++ given fields w (rows_of t (lot_at a.lots 1 d))))
      known None None None was now h one next = tt
      known None None (Some k) was now h one next = next
      known None (Some n) s was now h one next = absurd one
      known (Some m) None s was now h one next = absurd one
      known (Some m) (Some n) None was now h one next = next
      known (Some m) (Some n) (Some k) was now (tuples, h) one next =
          let same : rows_in n (lot_at b.lots 1 d) ≡ rows_in m (lot_at a.lots 1 d) =
          rows_read n (lot_at b.lots 1 d) (map form tuples) (rows_on m n d (map form tuples) ready was now h.records) ∙ sym (rows_read m (lot_at a.lots 1 d) (map form tuples) h.records) in
          let first = given fields w (rows_in m (lot_at a.lots 0 d)) in
          let second = given fields w (rows_in m (lot_at a.lots 1 d)) in
          let last : Gains (lot_at b.lots 2 d) e second n k = subst (λ xs. Gains (lot_at b.lots 2 d) e (given fields w xs) n k) same next in
          record {
            whole = λ is. last.whole (one.whole is);
            rows = λ is. last.rows (one.whole is) ∙ ap (λ xs. xs ++ second) (one.rows is) ∙ append_assoc (rows_in m (lot_at a.lots 2 d)) first second;
          }

-- What both copies keep.
pub keeps_first : {D : Type 0} (told : D → Option Blocks) (a b : Storage D) → KeepsStorage told a b (0 ∷ 2 ∷ []) (2 ∷ []) true → KeepsStorage told a b (0 ∷ 1 ∷ 2 ∷ []) (2 ∷ []) true
keeps_first told a b f = record {
  size = f.size;
  preserves = preserves_more (view_of told a) (view_of told b) (0 ∷ 2 ∷ []) (2 ∷ []) (0 ∷ 1 ∷ 2 ∷ []) (2 ∷ []) true true (λ i none. (none.0, none.1.1)) (λ i none. none) (λ is. is) f.preserves;
}

pub keeps_both : {D : Type 0} (told : D → Option Blocks) (a b c : Storage D) → KeepsStorage told a b (0 ∷ 2 ∷ []) (2 ∷ []) true → KeepsStorage told b c (1 ∷ 2 ∷ []) (2 ∷ []) true → KeepsStorage told a c (0 ∷ 1 ∷ 2 ∷ []) (2 ∷ []) true
keeps_both told a b c f g = record {
  size = g.size ∙ f.size;
  preserves = preserves_join (view_of told a) (view_of told b) (view_of told c) (0 ∷ 1 ∷ 2 ∷ []) (2 ∷ []) true (keeps_first told a b f).preserves
      (preserves_more (view_of told b) (view_of told c) (1 ∷ 2 ∷ []) (2 ∷ []) (0 ∷ 1 ∷ 2 ∷ []) (2 ∷ []) true true (λ i none. none.1) (λ i none. none) (λ is. is) g.preserves);
}

-- After an answer that isn't a fault both lots rest, and what was added is there.
pub rests_both : (answer : Result Unit StreamFault) (done : Unit) (x y : LotView) → answer ≡ Ok done → RestsAfter x y answer → (length (held x) ≤ x.stored.room) × (length (held y) ≤ y.stored.room)
rests_both (Ok value) done x y is rests = (rests.read, rests.written)
rests_both (Err fault) done x y is rests = let wrong = is in cc

pub ok_has : {E : Type 0} (answer : Result Unit E) (done : Unit) (P : Type 0) → answer ≡ Ok done → OnOk answer P → P
ok_has answer done P is h = subst (λ r. OnOk r P) is h
