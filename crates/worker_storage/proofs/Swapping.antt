-- Two lots of a storage change their places, or one with a lot from outside.
use Rattle.std.proofs.Common.{◌≡◌, ◌≢◌, inl, inr, ℕ, zero, suc, ◌+◌, ◌<◌, true, List, [], ◌∷◌, ◌++◌, length, Option, refl, sym, ap, ◌∙◌, subst, arith, sum_by, length-append, get_or, set}
use Rattle.std.specs.List.{swap}
use Rattle.std.proofs.lemmas.Bool.{cases_eq}
use Rattle.std.proofs.lemmas.List.{get_or-set_same, get_or-set_other, length-set}
use Rattle.std.proofs.lemmas.List.Edits.{swap_is, length-swap}
use Rattle.std.proofs.lemmas.List.Sums.{sum_by-append, sum_by-cons}
use Rattle.std.proofs.lemmas.List.Sorted.{IsPermutation-swap, sum_by-IsPermutation}
use Rattle.segment_core.specs.Segments.{PurseView, SegmentView, count_other_size, segment_sum}
use Rattle.flow_outside.specs.Blocks.{Blocks}
use Rattle.lot_store.specs.Lots.{LotView, held, pages_of}
use Rattle.lot_store.specs.Storage.{IsFreeOrOwned, IsReadyAt, Preserves, Stand, StandsAt, StaysStanding, lot_at, times_in}
use Rattle.lot_store.proofs.Telling.{told_same, told_weaker}
use Rattle.worker_storage.proofs.Lifting.{whole}

module _ (xs : List LotView) (i j : ℕ) (low_i : i < length xs) (low_j : j < length xs) where
  -- the lots that stand at the two places afterwards, and those at the others
  swap_second : (d : LotView) → lot_at (swap xs i j) j d ≡ lot_at xs i d
  swap_second d =
      subst (λ ys. lot_at ys j d ≡ lot_at xs i d) (swap_is xs i j d low_i low_j)
      (get_or-set_same (set xs i (get_or xs j d)) j (get_or xs i d) d (omega (arith, low_j, length-set xs i (get_or xs j d))))

  swap_first : (d : LotView) → i ≢ j → lot_at (swap xs i j) i d ≡ lot_at xs j d
  swap_first d far =
      subst (λ ys. lot_at ys i d ≡ lot_at xs j d) (swap_is xs i j d low_i low_j)
      (get_or-set_other (set xs i (get_or xs j d)) j i (get_or xs i d) d far ∙ get_or-set_same xs i (get_or xs j d) d low_i)

  pub swap_other : (k : ℕ) (d : LotView) → k ≢ i → k ≢ j → lot_at (swap xs i j) k d ≡ lot_at xs k d
  swap_other k d far_i far_j =
      subst (λ ys. lot_at ys k d ≡ lot_at xs k d) (swap_is xs i j d low_i low_j)
      (get_or-set_other (set xs i (get_or xs j d)) j k (get_or xs i d) d far_j ∙ get_or-set_other xs i k (get_or xs j d) d far_i)

  -- what is so of either lot at the place of the other, and of each at its own, is so at each place
  each_swapped : (P : LotView → LotView → Type 0) → ((lot : LotView) → P lot lot) → ((d : LotView) → P (lot_at xs j d) (lot_at xs i d)) → ((d : LotView) → P (lot_at xs i d) (lot_at xs j d)) → (k : ℕ) (d : LotView) → P (lot_at (swap xs i j) k d) (lot_at xs k d)
  each_swapped P stays back forth k d = elim (cases_eq k j) [
    | inl is_j ↦ subst (λ n. P (lot_at (swap xs i j) n d) (lot_at xs n d)) (sym is_j) (subst (λ lot. P lot (lot_at xs j d)) (sym (swap_second d)) (forth d))
    | inr far_j ↦ elim (cases_eq k i) [
      | inl is_i ↦ subst (λ n. P (lot_at (swap xs i j) n d) (lot_at xs n d)) (sym is_i) (subst (λ lot. P lot (lot_at xs i d)) (sym (swap_first d (λ is. far_j (is_i ∙ is)))) (back d))
      | inr far_i ↦ subst (λ lot. P lot (lot_at xs k d)) (sym (swap_other k d far_i far_j)) (stays (lot_at xs k d))
    ]
  ]

  -- each lot afterwards is one that was there
  from_swapped : (Q : LotView → Type 0) (k : ℕ) (d : LotView) → k < length (swap xs i j) → ((n : ℕ) → n < length xs → Q (lot_at xs n d)) → Q (lot_at (swap xs i j) k d)
  from_swapped Q k d low all = elim (cases_eq k j) [
    | inl is_j ↦ subst (λ n. Q (lot_at (swap xs i j) n d)) (sym is_j) (subst Q (sym (swap_second d)) (all i low_i))
    | inr far_j ↦ elim (cases_eq k i) [
      | inl is_i ↦ subst (λ n. Q (lot_at (swap xs i j) n d)) (sym is_i) (subst Q (sym (swap_first d (λ is. far_j (is_i ∙ is)))) (all j low_j))
      | inr far_i ↦ subst Q (sym (swap_other k d far_i far_j)) (all k (omega (arith, low, length-swap xs i j)))
    ]
  ]

  pub swapped_sum : (f : LotView → ℕ) → sum_by f (swap xs i j) ≡ sum_by f xs
  swapped_sum f = sum_by-IsPermutation f xs (swap xs i j) (IsPermutation-swap xs (swap xs i j) i j low_i low_j refl)

  stand_swapped : (size : ℕ) (p : List SegmentView) (m : Blocks) → Stand size p xs m → Stand size p (swap xs i j) m
  stand_swapped size p m s = record {
    sized = omega (arith, s.sized, swapped_sum (λ (lot : LotView). count_other_size size (held lot)));
    each = λ k d low. from_swapped (StandsAt size m) k d low (λ n inside. s.each n d inside);
    apart = λ block. omega (arith, s.apart block, swapped_sum (times_in m block));
  }

  pub ready_swapped : (size : ℕ) (t : Option Blocks) (p : PurseView) → IsReadyAt size (whole t p xs) → IsReadyAt size (whole t p (swap xs i j))
  ready_swapped size t p ready = record {
    room = omega (arith, ready.room, swapped_sum (λ (lot : LotView). length (held lot)));
    stand = told_weaker t (Stand size p.pages xs) (Stand size p.pages (swap xs i j)) (λ m s. stand_swapped size p.pages m s) ready.stand;
  }

  pub preserves_swapped : (t : Option Blocks) (p : PurseView) → ((d : LotView) → (lot_at xs i d).stored.room ≡ (lot_at xs j d).stored.room) → ((d : LotView) → (lot_at xs i d).feed.reach ≡ (lot_at xs j d).feed.reach)
      → Preserves (whole t p xs) (whole t p (swap xs i j)) (i ∷ j ∷ []) (i ∷ j ∷ []) true
  preserves_swapped t p room reach = record {
    count = length-swap xs i j;
    rooms = each_swapped (λ x y. x.stored.room ≡ y.stored.room) (λ lot. refl) (λ d. sym (room d)) room;
    reach = each_swapped (λ x y. x.feed.reach ≡ y.feed.reach) (λ lot. refl) (λ d. sym (reach d)) reach;
    same = λ k d none. swap_other k d none.0 none.1.0;
    pages = λ k d none. ap pages_of (swap_other k d none.0 none.1.0);
    segments = λ h. omega (arith, swapped_sum (λ (lot : LotView). segment_sum h (held lot)));
    purse_room = refl;
    told = told_same t (StaysStanding (whole t p xs) (whole t p (swap xs i j)) (i ∷ j ∷ []) true) (λ m. record {
      stand = λ size s. stand_swapped size p.pages m s;
      spares = λ size s. record {
        own = λ k d low none block own. refl;
        others = λ block live nobody. (refl, swapped_sum (times_in m block) ∙ nobody);
        fresh = λ tidy block is. owned_still m block is;
      };
    });
  }
    where
      owned_still : (m : Blocks) (block : ℕ) → IsFreeOrOwned m xs block → IsFreeOrOwned m (swap xs i j) block
      owned_still m block (inl free) = inl free
      owned_still m block (inr owned) = inr (omega (arith, owned, swapped_sum (times_in m block)))

-- A list with one more behind it.
lot_in_front : (ys : List LotView) (l : LotView) (k : ℕ) (d : LotView) → k < length ys → lot_at (ys ++ l ∷ []) k d ≡ lot_at ys k d
lot_in_front [] l k d low = absurd (omega (arith, low))
lot_in_front (y ∷ ys) l zero d low = refl
lot_in_front (y ∷ ys) l (suc k) d low = lot_in_front ys l k d (omega (arith, low))

lot_behind : (ys : List LotView) (l d : LotView) → lot_at (ys ++ l ∷ []) (length ys) d ≡ l
lot_behind [] l d = refl
lot_behind (y ∷ ys) l d = lot_behind ys l d

sum_more : (f : LotView → ℕ) (ys : List LotView) (l : LotView) → sum_by f (ys ++ l ∷ []) ≡ sum_by f ys + f l
sum_more f ys l = omega (arith, sum_by-append f ys (l ∷ []), sum_by-cons f l [])

-- What stands with one more stands without it.
pub ready_front : (size : ℕ) (t : Option Blocks) (p : PurseView) (ys : List LotView) (l : LotView) → IsReadyAt size (whole t p (ys ++ l ∷ [])) → IsReadyAt size (whole t p ys)
ready_front size t p ys l ready = record {
  room = omega (arith, ready.room, sum_more (λ (lot : LotView). length (held lot)) ys l);
  stand = told_weaker t (Stand size p.pages (ys ++ l ∷ [])) (Stand size p.pages ys) (λ m s. record {
    sized = omega (arith, s.sized, sum_more (λ (lot : LotView). count_other_size size (held lot)) ys l);
    each = λ k d low. subst (StandsAt size m) (lot_in_front ys l k d low) (s.each k d (omega (arith, low, length-append ys (l ∷ []))));
    apart = λ block. omega (arith, s.apart block, sum_more (times_in m block) ys l);
  }) ready.stand;
}

set_front : (ys : List LotView) (l v : LotView) (k : ℕ) → k < length ys → set (ys ++ l ∷ []) k v ≡ set ys k v ++ l ∷ []
set_front [] l v k low = absurd (omega (arith, low))
set_front (y ∷ ys) l v zero low = refl
set_front (y ∷ ys) l v (suc k) low = ap (λ zs. y ∷ zs) (set_front ys l v k (omega (arith, low)))

set_behind : (ys : List LotView) (l v : LotView) → set (ys ++ l ∷ []) (length ys) v ≡ ys ++ v ∷ []
set_behind [] l v = refl
set_behind (y ∷ ys) l v = ap (λ zs. y ∷ zs) (set_behind ys l v)

-- An exchange is a swap with the place behind all.
exchange_is : (xs : List LotView) (at : ℕ) (l d : LotView) → at < length xs → swap (xs ++ l ∷ []) at (length xs) ≡ set xs at l ++ lot_at xs at d ∷ []
exchange_is xs at l d low =
    sym (swap_is (xs ++ l ∷ []) at (length xs) d (omega (arith, low, length-append xs (l ∷ []))) (omega (arith, length-append xs (l ∷ []))))
    ∙ ap (λ v. set (set (xs ++ l ∷ []) at v) (length xs) (get_or (xs ++ l ∷ []) at d)) (lot_behind xs l d)
    ∙ ap (λ v. set (set (xs ++ l ∷ []) at l) (length xs) v) (lot_in_front xs l at d low)
    ∙ ap (λ zs. set zs (length xs) (lot_at xs at d)) (set_front xs l l at low)
    ∙ ap (λ n. set (set xs at l ++ l ∷ []) n (lot_at xs at d)) (sym (length-set xs at l))
    ∙ set_behind (set xs at l) l (lot_at xs at d)

pub ready_exchanged : (size : ℕ) (t : Option Blocks) (p : PurseView) (xs : List LotView) (at : ℕ) (l d : LotView) → at < length xs → IsReadyAt size (whole t p (xs ++ l ∷ [])) → IsReadyAt size (whole t p (set xs at l ++ lot_at xs at d ∷ []))
ready_exchanged size t p xs at l d low ready =
    subst (λ zs. IsReadyAt size (whole t p zs)) (exchange_is xs at l d low)
    (ready_swapped (xs ++ l ∷ []) at (length xs) (omega (arith, low, length-append xs (l ∷ []))) (omega (arith, length-append xs (l ∷ []))) size t p ready)
