-- The laws of `Preserves`: it holds of nothing done, of one call after another, and of a whole list where a call worked on some
-- of its lots.
use Rattle.std.proofs.Common.{◌≡◌, ◌⊎◌, inl, inr, ℕ, zero, suc, ◌+◌, ◌<◌, ◌≤◌, Bool, true, All, List, [], ◌∷◌, length, slice_index_or, Option, Some, None, refl, sym, ap, ◌∙◌, subst, arith, sum_by}
use Rattle.std.proofs.lemmas.Bool.{cases_eq, cases_lt}
use Rattle.std.proofs.lemmas.List.{length-map}
use Rattle.std.proofs.lemmas.List.Elements.{All-tail}
use Rattle.std.proofs.lemmas.List.Sums.{sum_by-cons}
use Rattle.segment_core.specs.Segments.{count_other_size, segment_sum}
use Rattle.segment_core.proofs.Weighing.{segment_sum-ones}
use Rattle.flow_outside.specs.Blocks.{Blocks, BothTold}
use Rattle.flow_outside.specs.Told.{IfTold}
use Rattle.page_feed.specs.Feeds.{HasLeft}
use Rattle.page_feed.specs.Reach.{IsWithinReach}
use Rattle.lot_store.specs.Lots.{HoldsRows, LotView, held, pages_of, sizes}
use Rattle.lot_store.specs.Stores.{PagesView, sizes as sizes_stored, text as text_stored}
use Rattle.lot_store.specs.Laws.{WasKept}
use Rattle.lot_store.specs.Storage.{AreBelow, Differ, IsFreeOrOwned, IsNoneOf, IsReady, IsReadyAt, HasBudget, Preserves, SparesBlocks, Stand, StandsAt, StaysStanding, StorageView, held_count, held_sum, lot_at, lots_at, owners, part_of, places_at, rooms, times_in}
use Rattle.spool.proofs.SpillLemmas.{told_join}
use Rattle.lot_store.proofs.Telling.{told_after, told_map, told_same, told_weaker}
use Rattle.lot_store.proofs.StorageSums.{one_least, outside_sum, part_sum, split_sum}
use Rattle.lot_store.proofs.StorageBlocks.{IsKeptLot, kept_lot, owned_lives, same_times, times_of}

run_of : (a b : LotView) → pages_of b ≡ pages_of a → b.stored.run ≡ a.stored.run
run_of a b pages = ap (λ (s : PagesView). s.run) pages

-- Nothing was done.
pub preserves_none : (a : StorageView) → Preserves a a [] [] true
preserves_none a = record {
  count = refl;
  rooms = λ i d. refl;
  reach = λ i d. refl;
  same = λ i d none. refl;
  pages = λ i d none. refl;
  segments = λ h. refl;
  purse_room = refl;
  told = told_same a.told (StaysStanding a a [] true) (λ m. record {
    stand = λ size s. s;
    spares = λ size s. record {
      own = λ i d low none block own. refl;
      others = λ block live none. (refl, none);
      fresh = λ tidy block is. is;
    };
  });
}

-- More places may be said to be touched and written, and less to be tidy.
pub preserves_more : (a b : StorageView) (ts ws us vs : List ℕ) (tidy less : Bool) → ((i : ℕ) → IsNoneOf i us → IsNoneOf i ts) → ((i : ℕ) → IsNoneOf i vs → IsNoneOf i ws) → (less ≡ true → tidy ≡ true)
    → Preserves a b ts ws tidy → Preserves a b us vs less
preserves_more a b ts ws us vs tidy less touched written weaker p = record {
  count = p.count;
  rooms = p.rooms;
  reach = p.reach;
  same = λ i d none. p.same i d (touched i none);
  pages = λ i d none. p.pages i d (written i none);
  segments = p.segments;
  purse_room = p.purse_room;
  told = told_map a.told b.told (StaysStanding a b ws tidy) (StaysStanding a b vs less) (λ m n s. record {
    stand = s.stand;
    spares = λ size st.
        let spares = s.spares size st in record {
          own = λ i d low none. spares.own i d low (written i none);
          others = spares.others;
          fresh = λ is. spares.fresh (weaker is);
        };
  }) p.told;
}

-- One call after another.
spares_join : (a b c : StorageView) (ws : List ℕ) (tidy : Bool) (k m n : Blocks)
    → length b.lots ≡ length a.lots → ((i : ℕ) (d : LotView) → IsNoneOf i ws → pages_of (lot_at b.lots i d) ≡ pages_of (lot_at a.lots i d))
    → SparesBlocks a.lots b.lots ws tidy k m → SparesBlocks b.lots c.lots ws tidy m n → SparesBlocks a.lots c.lots ws tidy k n
spares_join a b c ws tidy k m n count pages f g = record {
  own = λ i d low none block owned.
      let mine : (x : ℕ) → 0 < times_in k x (lot_at a.lots i d) → m x ≡ k x = λ x. f.own i d low none x in
      let still : times_of m block (lot_at a.lots i d).stored.run ≡ times_of k block (lot_at a.lots i d).stored.run = same_times k m block (lot_at a.lots i d).stored.run mine in
      let run : (lot_at b.lots i d).stored.run ≡ (lot_at a.lots i d).stored.run = run_of (lot_at a.lots i d) (lot_at b.lots i d) (pages i d none) in
      let now : 0 < times_in m block (lot_at b.lots i d) = subst (λ r. 0 < times_of m block r) (sym run) (omega (arith, owned, still)) in
      g.own i d (omega (arith, low, count)) none block now ∙ mine block owned;
  others = λ block live none.
      let x = f.others block live none in
      let y = g.others block (λ gone. live (sym x.0 ∙ gone)) x.1 in (y.0 ∙ x.0, y.1);
  fresh = λ tidy_is block is. g.fresh tidy_is block (f.fresh tidy_is block is);
}

stays_join : (a b c : StorageView) (ts ws : List ℕ) (tidy : Bool) → Preserves a b ts ws tidy → (k m n : Blocks) → StaysStanding a b ws tidy k m → StaysStanding b c ws tidy m n → StaysStanding a c ws tidy k n
stays_join a b c ts ws tidy p k m n f g = record {
  stand = λ size s. g.stand size (f.stand size s);
  spares = λ size s. spares_join a b c ws tidy k m n p.count p.pages (f.spares size s) (g.spares size (f.stand size s));
}

pub preserves_join : (a b c : StorageView) (ts ws : List ℕ) (tidy : Bool) → Preserves a b ts ws tidy → Preserves b c ts ws tidy → Preserves a c ts ws tidy
preserves_join a b c ts ws tidy p q = record {
  count = q.count ∙ p.count;
  rooms = λ i d. q.rooms i d ∙ p.rooms i d;
  reach = λ i d. q.reach i d ∙ p.reach i d;
  same = λ i d none. q.same i d none ∙ p.same i d none;
  pages = λ i d none. q.pages i d none ∙ p.pages i d none;
  segments = λ h. q.segments h ∙ p.segments h;
  purse_room = q.purse_room ∙ p.purse_room;
  told = told_join a.told b.told c.told (StaysStanding a b ws tidy) (StaysStanding b c ws tidy) (StaysStanding a c ws tidy) (stays_join a b c ts ws tidy p) p.told q.told;
}

-- A place is among some, or none of them.
among : (i : ℕ) (places : List ℕ) → ((k : ℕ) × (k < length places) × (slice_index_or places k 0 ≡ i)) ⊎ IsNoneOf i places
among i [] = inr tt
among i (place ∷ places) = elim (cases_eq i place) [
  | inl here ↦ inl (0, omega arith, sym here)
  | inr far ↦ elim (among i places) [
    | inl found ↦ inl (suc found.0, omega (arith, found.1), found.2)
    | inr none ↦ inr (far, none)
  ]
]

none_through : (places : List ℕ) (k i : ℕ) (ks : List ℕ) → slice_index_or places k 0 ≡ i → IsNoneOf i (places_at places ks) → IsNoneOf k ks
none_through places k i [] is none = tt
none_through places k i (t ∷ ts) is (far, none) = (λ same. far (sym is ∙ ap (λ x. slice_index_or places x 0) same), none_through places k i ts is none)

below_at : (count : ℕ) (places : List ℕ) (k : ℕ) → AreBelow count places → k < length places → slice_index_or places k 0 < count
below_at count [] k lows low = absurd (omega (arith, low))
below_at count (place ∷ places) zero (here, lows) low = here
below_at count (place ∷ places) (suc k) (here, lows) low = below_at count places k lows (omega (arith, low))

-- past the end of a list the default doesn't matter within it
same_default : (lots : List LotView) (i : ℕ) (d e : LotView) → i < length lots → lot_at lots i d ≡ lot_at lots i e
same_default [] i d e low = absurd (omega (arith, low))
same_default (lot ∷ lots) zero d e low = refl
same_default (lot ∷ lots) (suc i) d e low = same_default lots i d e (omega (arith, low))

picked_at : (lots : List LotView) (places : List ℕ) (k : ℕ) (d e : LotView) → k < length places → lot_at (lots_at lots places d) k e ≡ lot_at lots (slice_index_or places k 0) d
picked_at lots [] k d e low = absurd (omega (arith, low))
picked_at lots (place ∷ places) zero d e low = refl
picked_at lots (place ∷ places) (suc k) d e low = picked_at lots places k d e (omega (arith, low))

count_at : (lots : List LotView) (places : List ℕ) (d : LotView) → length (lots_at lots places d) ≡ length places
count_at lots places d = length-map places (λ i. lot_at lots i d)

-- A call worked on the lots at some places, and the others are the same.
module _ (places : List ℕ) (a b : StorageView) (d : LotView) (differ : Differ places) (lows : AreBelow (length a.lots) places) (count : length b.lots ≡ length a.lots)
    (far_same : (i : ℕ) (e : LotView) → IsNoneOf i places → lot_at b.lots i e ≡ lot_at a.lots i e) where
  lot_there : (lots : List LotView) → length lots ≡ length a.lots → (k i : ℕ) (e f : LotView) → k < length places → slice_index_or places k 0 ≡ i → lot_at (lots_at lots places d) k f ≡ lot_at lots i e
  lot_there lots long k i e f low is =
      picked_at lots places k d f low ∙ ap (λ x. lot_at lots x d) is
      ∙ same_default lots i d e (omega (arith, below_at (length a.lots) places k lows low, is, long))

  -- what is so of a lot that a call worked on, and of one that is the same, is so of all
  each_where : (P : LotView → LotView → Type 0) → ((lot : LotView) → P lot lot) → (i : ℕ) (e : LotView)
      → ((k : ℕ) → k < length places → slice_index_or places k 0 ≡ i → P (lot_at (lots_at b.lots places d) k e) (lot_at (lots_at a.lots places d) k e)) → P (lot_at b.lots i e) (lot_at a.lots i e)
  each_where P stays i e at = elim (among i places) [
    | inl found ↦
        subst (λ x. P x (lot_at a.lots i e)) (lot_there b.lots count found.0 i e e found.1 found.2)
        (subst (λ x. P (lot_at (lots_at b.lots places d) found.0 e) x) (lot_there a.lots refl found.0 i e e found.1 found.2) (at found.0 found.1 found.2))
    | inr none ↦ subst (λ x. P x (lot_at a.lots i e)) (sym (far_same i e none)) (stays (lot_at a.lots i e))
  ]

  sums_within : (f g : LotView → ℕ) → ((i : ℕ) → i < length a.lots → IsNoneOf i places → g (lot_at b.lots i d) ≡ f (lot_at a.lots i d))
      → sum_by g b.lots + sum_by f (lots_at a.lots places d) ≡ sum_by f a.lots + sum_by g (lots_at b.lots places d)
  sums_within f g same = split_sum places a.lots b.lots d differ lows count f g same

  same_sums : (f : LotView → ℕ) → sum_by f b.lots + sum_by f (lots_at a.lots places d) ≡ sum_by f a.lots + sum_by f (lots_at b.lots places d)
  same_sums f = sums_within f f (λ i low none. ap f (far_same i d none))

  -- what stands in the list, part of it
  pub stand_part : (size : ℕ) (m : Blocks) → Stand size a.purse.pages a.lots m → Stand size a.purse.pages (lots_at a.lots places d) m
  stand_part size m s = record {
    sized = omega (arith, s.sized, part_sum (λ (lot : LotView). count_other_size size (held lot)) places a.lots d differ lows);
    each = λ k e low.
        let inside : k < length places = omega (arith, low, count_at a.lots places d) in
        let there : slice_index_or places k 0 < length a.lots = below_at (length a.lots) places k lows inside in
        subst (StandsAt size m) (sym (lot_there a.lots refl k (slice_index_or places k 0) d e inside refl)) (s.each (slice_index_or places k 0) d there);
    apart = λ block. omega (arith, s.apart block, part_sum (times_in m block) places a.lots d differ lows);
  }

  module _ (ts ws : List ℕ) (tidy : Bool) (size : ℕ) (m n : Blocks) (s : Stand size a.purse.pages a.lots m)
      (now : Stand size b.purse.pages (lots_at b.lots places d) n) (spares : SparesBlocks (lots_at a.lots places d) (lots_at b.lots places d) ws tidy m n) where
    -- the blocks of a lot that the call didn't work on are as they were
    outside_own : (i : ℕ) → i < length a.lots → IsNoneOf i places → (block : ℕ) → 0 < times_in m block (lot_at a.lots i d) → (n block ≡ m block) × (owners n block (lots_at b.lots places d) ≡ 0)
    outside_own i low none block owned =
        let nobody : owners m block (lots_at a.lots places d) ≡ 0 = omega (arith, owned, s.apart block, outside_sum (times_in m block) places a.lots d i differ lows low none) in
        spares.others block (owned_lives m size block a.lots d s.each (omega (arith, owned, one_least (times_in m block) a.lots i d low))) nobody

    outside_times : (block i : ℕ) → i < length a.lots → IsNoneOf i places → times_in n block (lot_at b.lots i d) ≡ times_in m block (lot_at a.lots i d)
    outside_times block i low none =
        ap (times_in n block) (far_same i d none) ∙ same_times m n block (lot_at a.lots i d).stored.run (λ k owned. (outside_own i low none k owned).0)

    owners_within : (block : ℕ) → owners n block b.lots + owners m block (lots_at a.lots places d) ≡ owners m block a.lots + owners n block (lots_at b.lots places d)
    owners_within block = sums_within (times_in m block) (times_in n block) (outside_times block)

    -- where a lot that the call didn't work on has a block, no other has it afterwards
    apart_within : (block : ℕ) → owners n block b.lots ≤ 1
    apart_within block = elim (cases_lt 0 (owners m block a.lots)) [
      | inl above ↦ elim (cases_lt 0 (owners m block (lots_at a.lots places d))) [
        | inl mine ↦ omega (arith, owners_within block, s.apart block, now.apart block, mine)
        | inr none ↦
            let other = spares.others block (owned_lives m size block a.lots d s.each above) (omega (arith, none)) in
            omega (arith, owners_within block, s.apart block, other.1)
      ]
      | inr none ↦ omega (arith, owners_within block, now.apart block, none)
    ]

    outside_stands : (i : ℕ) → i < length a.lots → IsNoneOf i places → StandsAt size n (lot_at b.lots i d)
    outside_stands i low none =
        let stands = s.each i d low in
        subst (StandsAt size n) (sym (far_same i d none)) (kept_lot m n size (lot_at a.lots i d) stands (λ block owned. (outside_own i low none block owned).0)).stands

    each_within : All (StandsAt size n) b.lots
    each_within i e low =
        let inside : i < length a.lots = omega (arith, low, count) in
        subst (StandsAt size n) (same_default b.lots i d e low) (elim (among i places) [
          | inl found ↦ subst (StandsAt size n) (lot_there b.lots count found.0 i d d found.1 found.2) (now.each found.0 d (omega (arith, found.1, count_at b.lots places d)))
          | inr none ↦ outside_stands i inside none
        ])

    spares_within : SparesBlocks a.lots b.lots (places_at places ws) tidy m n
    spares_within = record {
      own = λ i e low none block owned.
          let owned_at : 0 < times_in m block (lot_at a.lots i d) = subst (λ lot. 0 < times_in m block lot) (same_default a.lots i e d low) owned in
          elim (among i places) [
            | inl found ↦ spares.own found.0 d (omega (arith, found.1, count_at a.lots places d)) (none_through places found.0 i ws found.2 none) block
                (subst (λ lot. 0 < times_in m block lot) (sym (lot_there a.lots refl found.0 i d d found.1 found.2)) owned_at)
            | inr outside ↦ (outside_own i low outside block owned_at).0
          ];
      others = λ block live nobody.
          let other = spares.others block live (omega (arith, nobody, part_sum (times_in m block) places a.lots d differ lows)) in
          (other.0, omega (arith, owners_within block, nobody, other.1));
      fresh = λ tidy_is block is. fresh_within tidy_is block is;
    }
      where
        from_part : (block : ℕ) → IsFreeOrOwned n (lots_at b.lots places d) block → IsFreeOrOwned n b.lots block
        from_part block (inl free) = inl free
        from_part block (inr owned) = inr (omega (arith, owned, part_sum (times_in n block) places b.lots d differ (subst (λ k. AreBelow k places) (sym count) lows)))

        fresh_within : tidy ≡ true → (block : ℕ) → IsFreeOrOwned m a.lots block → IsFreeOrOwned n b.lots block
        fresh_within tidy_is block (inl free) = from_part block (spares.fresh tidy_is block (inl free))
        fresh_within tidy_is block (inr owned) = elim (cases_lt 0 (owners m block (lots_at a.lots places d))) [
          | inl mine ↦ from_part block (spares.fresh tidy_is block (inr mine))
          | inr none ↦ inr (omega (arith, owners_within block, owned, none))
        ]

  pub preserves_within : (ts ws : List ℕ) (tidy : Bool) → Preserves (part_of a places d) (part_of b places d) ts ws tidy → Preserves a b (places_at places ts) (places_at places ws) tidy
  preserves_within ts ws tidy p = record {
    count = count;
    rooms = λ i e. each_where (λ x y. x.stored.room ≡ y.stored.room) (λ lot. refl) i e (λ k low is. p.rooms k e);
    reach = λ i e. each_where (λ x y. x.feed.reach ≡ y.feed.reach) (λ lot. refl) i e (λ k low is. p.reach k e);
    same = λ i e none. each_where (λ x y. x ≡ y) (λ lot. refl) i e (λ k low is. p.same k e (none_through places k i ts is none));
    pages = λ i e none. each_where (λ x y. pages_of x ≡ pages_of y) (λ lot. refl) i e (λ k low is. p.pages k e (none_through places k i ws is none));
    segments = λ h. omega (arith, p.segments h, same_sums (λ (lot : LotView). segment_sum h (held lot)));
    purse_room = p.purse_room;
    told = told_map a.told b.told (StaysStanding (part_of a places d) (part_of b places d) ws tidy) (StaysStanding a b (places_at places ws) tidy)
        (λ m n stays. record {
          stand = λ size s.
              let now = stays.stand size (stand_part size m s) in
              let spares = stays.spares size (stand_part size m s) in record {
                sized = sized_within size m n s now p;
                each = each_within ts ws tidy size m n s now spares;
                apart = apart_within ts ws tidy size m n s now spares;
              };
          spares = λ size s. spares_within ts ws tidy size m n s (stays.stand size (stand_part size m s)) (stays.spares size (stand_part size m s));
        })
        p.told;
  }
    where
      sized_within : (size : ℕ) (m n : Blocks) → Stand size a.purse.pages a.lots m → Stand size b.purse.pages (lots_at b.lots places d) n → Preserves (part_of a places d) (part_of b places d) ts ws tidy
          → count_other_size size b.purse.pages + sum_by (λ lot. count_other_size size (held lot)) b.lots ≡ 0
      sized_within size m n s now p =
          let sums : count_other_size size b.purse.pages + sum_by (λ (lot : LotView). count_other_size size (held lot)) (lots_at b.lots places d) ≡ 0 = now.sized in
          omega (arith, s.sized, sums, same_sums (λ (lot : LotView). count_other_size size (held lot)))

-- What lists add up to that agree everywhere.
pub sums_agree : (f g : LotView → ℕ) (xs ys : List LotView) (d : LotView) → length ys ≡ length xs → ((i : ℕ) → i < length xs → g (lot_at ys i d) ≡ f (lot_at xs i d)) → sum_by g ys ≡ sum_by f xs
sums_agree f g xs ys d long same = omega (arith, split_sum [] xs ys d tt tt long f g (λ i low none. same i low))

held_ones : (lots : List LotView) → held_sum (λ _ _. 1) lots ≡ held_count lots
held_ones [] = refl
held_ones (lot ∷ lots) =
    omega (arith, sum_by-cons (λ (l : LotView). segment_sum (λ _ _. 1) (held l)) lot lots, sum_by-cons (λ (l : LotView). length (held l)) lot lots, segment_sum-ones (held lot), held_ones lots)

pub counts_after : (a b : StorageView) (ts ws : List ℕ) (tidy : Bool) → Preserves a b ts ws tidy → length b.purse.pages + held_count b.lots ≡ length a.purse.pages + held_count a.lots
counts_after a b ts ws tidy p =
    omega (arith, p.segments (λ _ _. 1), segment_sum-ones a.purse.pages, segment_sum-ones b.purse.pages, held_ones a.lots, held_ones b.lots)

-- What a call may work on, the next may work on.
pub ready_after : (a b : StorageView) (ts ws : List ℕ) (tidy : Bool) → Preserves a b ts ws tidy → IsReady a → IsReady b
ready_after a b ts ws tidy p ready = record {
  room = omega (arith, counts_after a b ts ws tidy p, ready.room, p.purse_room);
  stand = told_after a.told b.told (λ m. (size : ℕ) × Stand size a.purse.pages a.lots m) (λ n. (size : ℕ) × Stand size b.purse.pages b.lots n) (StaysStanding a b ws tidy)
      (λ m n s stays. (s.0, stays.stand s.0 s.1)) ready.stand p.told;
}

pub ready_at_after : (size : ℕ) (a b : StorageView) (ts ws : List ℕ) (tidy : Bool) → Preserves a b ts ws tidy → IsReadyAt size a → IsReadyAt size b
ready_at_after size a b ts ws tidy p ready = record {
  room = omega (arith, counts_after a b ts ws tidy p, ready.room, p.purse_room);
  stand = told_after a.told b.told (Stand size a.purse.pages a.lots) (Stand size b.purse.pages b.lots) (StaysStanding a b ws tidy)
      (λ m n s stays. stays.stand size s) ready.stand p.told;
}

pub ready_of_at : (size : ℕ) (a : StorageView) → IsReadyAt size a → IsReady a
ready_of_at size a ready = record { room = ready.room; stand = known a.told ready.stand }
  where
    known : (t : Option Blocks) → IfTold t (Stand size a.purse.pages a.lots) → IfTold t (λ m. (s : ℕ) × Stand s a.purse.pages a.lots m)
    known None h = tt
    known (Some m) h = (size, h)

-- A budget stays.
pub budget_after : (a b : StorageView) (ts ws : List ℕ) (tidy : Bool) (d : LotView) (need : ℕ) → Preserves a b ts ws tidy → HasBudget need a → HasBudget need b
budget_after a b ts ws tidy d need p budget =
    omega (arith, budget, counts_after a b ts ws tidy p, sums_agree (λ (lot : LotView). lot.stored.room) (λ (lot : LotView). lot.stored.room) a.lots b.lots d p.count (λ i low. p.rooms i d))

-- A lot at a place that wasn't written holds the records that it held.
holds_same : (m : Blocks) (a b : LotView) (rows : List (List ℕ)) → pages_of b ≡ pages_of a → b.feed.reach ≡ a.feed.reach → HoldsRows m a rows → HoldsRows m b rows
holds_same m a b rows pages reach holds = record {
  bytes = ap (text_stored m) pages ∙ holds.bytes;
  lengths = holds.lengths;
  reach = subst (λ (k : ℕ). IsWithinReach k (sizes m b) rows) (sym reach) (subst (λ (s : PagesView). IsWithinReach a.feed.reach (sizes_stored m s) rows) (sym pages) holds.reach);
}

pub rows_stay : (a b : StorageView) (ts ws : List ℕ) (tidy : Bool) (m n : Blocks) (size i : ℕ) (d : LotView) (rows : List (List ℕ)) → Preserves a b ts ws tidy → StaysStanding a b ws tidy m n
    → Stand size a.purse.pages a.lots m → i < length a.lots → IsNoneOf i ws → HoldsRows m (lot_at a.lots i d) rows → HoldsRows n (lot_at b.lots i d) rows
rows_stay a b ts ws tidy m n size i d rows p stays s low none holds =
    let kept : IsKeptLot size (lot_at a.lots i d) m n = kept_lot m n size (lot_at a.lots i d) (s.each i d low) ((stays.spares size s).own i d low none) in
    holds_same n (lot_at a.lots i d) (lot_at b.lots i d) rows (p.pages i d none) (p.reach i d) (kept.holds rows holds)

-- A lot at a place that wasn't touched has the same records left to be read.
pub left_stays : (a b : StorageView) (ts ws : List ℕ) (tidy : Bool) (m n : Blocks) (size i : ℕ) (d : LotView) (rows : List (List ℕ)) → Preserves a b ts ws tidy → StaysStanding a b ws tidy m n
    → Stand size a.purse.pages a.lots m → i < length a.lots → IsNoneOf i ts → IsNoneOf i ws → HasLeft m (lot_at a.lots i d).feed rows → HasLeft n (lot_at b.lots i d).feed rows
left_stays a b ts ws tidy m n size i d rows p stays s low none unwritten left =
    let kept : IsKeptLot size (lot_at a.lots i d) m n = kept_lot m n size (lot_at a.lots i d) (s.each i d low) ((stays.spares size s).own i d low unwritten) in
    subst (λ (lot : LotView). HasLeft n lot.feed rows) (sym (p.same i d none)) (kept.left rows left)

-- The same, of what a call may work on.
kept_at : (a b : StorageView) (ws : List ℕ) (tidy : Bool) (m n : Blocks) → a.told ≡ Some m → b.told ≡ Some n → BothTold a.told b.told (StaysStanding a b ws tidy) → StaysStanding a b ws tidy m n
kept_at a b ws tidy m n was now told =
    subst (λ o. BothTold (Some m) o (StaysStanding a b ws tidy)) now (subst (λ o. BothTold o b.told (StaysStanding a b ws tidy)) was told)

stood_at : (a : StorageView) (m : Blocks) → a.told ≡ Some m → IsReady a → (size : ℕ) × Stand size a.purse.pages a.lots m
stood_at a m was ready = subst (λ o. IfTold o (λ k. (size : ℕ) × Stand size a.purse.pages a.lots k)) was ready.stand

pub rows_kept_on : (a b : StorageView) (ts ws : List ℕ) (tidy : Bool) (m n : Blocks) (i : ℕ) (d : LotView) (rows : List (List ℕ)) → WasKept a b ts ws tidy → a.told ≡ Some m → b.told ≡ Some n
    → i < length a.lots → IsNoneOf i ws → HoldsRows m (lot_at a.lots i d) rows → HoldsRows n (lot_at b.lots i d) rows
rows_kept_on a b ts ws tidy m n i d rows k was now low none holds =
    let s = stood_at a m was k.ready in
    rows_stay a b ts ws tidy m n s.0 i d rows k.preserves (kept_at a b ws tidy m n was now k.preserves.told) s.1 low none holds

pub left_kept_on : (a b : StorageView) (ts ws : List ℕ) (tidy : Bool) (m n : Blocks) (i : ℕ) (d : LotView) (rows : List (List ℕ)) → WasKept a b ts ws tidy → a.told ≡ Some m → b.told ≡ Some n
    → i < length a.lots → IsNoneOf i ts → IsNoneOf i ws → HasLeft m (lot_at a.lots i d).feed rows → HasLeft n (lot_at b.lots i d).feed rows
left_kept_on a b ts ws tidy m n i d rows k was now low none unwritten left =
    let s = stood_at a m was k.ready in
    left_stays a b ts ws tidy m n s.0 i d rows k.preserves (kept_at a b ws tidy m n was now k.preserves.told) s.1 low none unwritten left

-- a list that has no lot, or some lot
some_lot : (lots : List LotView) → (lots ≡ []) ⊎ LotView
some_lot [] = inl refl
some_lot (lot ∷ lots) = inr lot

pub budget_kept : (a b : StorageView) (ts ws : List ℕ) (tidy : Bool) (need : ℕ) → Preserves a b ts ws tidy → HasBudget need a → HasBudget need b
budget_kept a b ts ws tidy need p budget = elim (some_lot a.lots) [
  | inl none ↦
      let none_now : b.lots ≡ [] = no_lots b.lots (omega (arith, p.count, ap length none)) in
      omega (arith, budget, counts_after a b ts ws tidy p, ap rooms none, ap rooms none_now)
  | inr d ↦ budget_after a b ts ws tidy d need p budget
]
  where
    no_lots : (lots : List LotView) → length lots ≡ 0 → lots ≡ []
    no_lots [] none = refl
    no_lots (lot ∷ lots) none = absurd (omega (arith, none))

-- no run, no block
none_owned : (n : Blocks) (block : ℕ) (lots : List LotView) → All (λ lot. lot.stored.run ≡ None) lots → owners n block lots ≡ 0
none_owned n block [] none = refl
none_owned n block (lot ∷ lots) none =
    let here : times_in n block lot ≡ 0 = ap (times_of n block) (none 0 lot (omega arith)) in
    omega (arith, here, sum_by-cons (times_in n block) lot lots, none_owned n block lots (All-tail (λ l. l.stored.run ≡ None) lot lots none))

pub freed_all : (a b : StorageView) (ts ws : List ℕ) (m n : Blocks) → WasKept a b ts ws true → a.told ≡ Some m → b.told ≡ Some n → All (λ lot. lot.stored.run ≡ None) b.lots
    → (block : ℕ) → 0 < owners m block a.lots → n block ≡ None
freed_all a b ts ws m n k was now none block owned =
    let s = stood_at a m was k.ready in
    free_of (((kept_at a b ws true m n was now k.preserves.told).spares s.0 s.1).fresh refl block (inr owned))
  where
    free_of : IsFreeOrOwned n b.lots block → n block ≡ None
    free_of (inl free) = free
    free_of (inr mine) = absurd (omega (arith, mine, none_owned n block b.lots none))

-- What a call may work on, one over a part of it may.
pub ready_part : (places : List ℕ) (a : StorageView) (d : LotView) → Differ places → AreBelow (length a.lots) places → IsReady a → IsReady (part_of a places d)
ready_part places a d differ lows ready = record {
  room = omega (arith, ready.room, part_sum (λ (lot : LotView). length (held lot)) places a.lots d differ lows);
  stand = told_weaker a.told (λ m. (size : ℕ) × Stand size a.purse.pages a.lots m) (λ m. (size : ℕ) × Stand size a.purse.pages (lots_at a.lots places d) m)
      (λ m s. (s.0, stand_part places a a d differ lows refl (λ i e none. refl) s.0 m s.1)) ready.stand;
}
