-- A lot that is read from its first page on.
use Rattle.std.proofs.Common.{◌≡◌, ℕ, ◌+◌, ◌^◌, ◌<◌, ◌==◌, Bool, cond, not, All, List, ◌++◌, length, map, Result, Ok, Err, IfOk, IfSome, Option, Some, None, refl, sym, ap, ◌∙◌, subst, arith, append_assoc}
use Rattle.segment_core.specs.Segments.{SegmentView, count_other_size, segment_sum}
use Rattle.segment_core.proofs.Weighing.{segment_sum-append}
use Rattle.flow_outside.specs.Blocks.{Blocks, BothTold}
use Rattle.flow_outside.specs.Told.{IfTold}
use Rattle.flow_types.specs.Records.{frames}
use Rattle.paged_view.specs.Pages.{used_bytes, all_used_bytes}
use Rattle.paged_view.specs.Streams.{Advances, KnowsRows}
use Rattle.spool.specs.Headers.{as_page}
use Rattle.spool.specs.Reading.{number_at}
use Rattle.spool.specs.Runs.{HasBlock, Stands, joined, pages_at}
use Rattle.spool.specs.declared.place.RunReader.{RunReader}
use Rattle.spool.specs.declared.writer.RunWriter.{RunWriter}
use Rattle.page_feed.specs.Feeds.{FeedView, HasBlockLeft, block_of, block_or, HasLeft, IsLeftReadable, kept_in, open_page_in, lent, pages_left}
use Rattle.page_feed.specs.Reach.{IsWithinReach, behind, sizes_of}
use Rattle.page_feed.proofs.ReachLemmas.{reach_first}
use Rattle.spool.specs.Spilling.{IsFreeOrOwn, IsSpilled, OwnsBlock, spilled}
use Rattle.lot_store.specs.Stores.{PagesView, held as held_stored, sizes as sizes_stored, text as text_stored}
use Rattle.lot_store.specs.Lots.{HoldsRows, IsLeft, IsRewound, IsSound, LotView, StandsWith, held, pages_of}
use Rattle.lot_store.specs.LotKeeping.{Keeps, MovesSegments}
use Rattle.lot_store.specs.Reads.{BeginsAt, BeginsRun, HandsOver}
use Rattle.lot_store.proofs.RestLemmas.{GaveBack, stored_same}

-- What was read last of a run that is being read is its reader's block.
pub reads_block : (run : Option RunReader) (other : ℕ) → IfSome run (λ reader. block_or run other ≡ reader.block)
reads_block None other = tt
reads_block (Some reader) other = refl

pub same_block : (run : Option RunReader) (other : ℕ) → other ≡ block_of run → block_or run other ≡ block_of run
same_block None other is = is
same_block (Some reader) other is = refl

-- A reader at the first page of a run has read none.
pub none_read : (u : Option RunWriter) (v : Option RunReader) → BeginsRun u v → block_or v 0 ≡ 0
none_read None None begins = refl
none_read None (Some reader) begins = absurd begins
none_read (Some writer) None begins = absurd begins
none_read (Some writer) (Some reader) begins = begins.none

-- A reader at the first page of a run has its pages left.
pub left_begun : (m : Blocks) (u : Option RunWriter) (v : Option RunReader) → BeginsRun u v → pages_left m v ≡ spilled m u
left_begun m None None begins = refl
left_begun m None (Some reader) begins = absurd begins
left_begun m (Some writer) None begins = absurd begins
left_begun m (Some writer) (Some reader) begins =
    ap (λ k. pages_at m k reader.left) begins.at ∙ ap (pages_at m writer.first) begins.left

-- It has read no page.
pub none_begun : (u : Option RunWriter) (v : Option RunReader) → BeginsRun u v → block_of v ≡ 0
none_begun None None begins = refl
none_begun None (Some reader) begins = absurd begins
none_begun (Some writer) None begins = absurd begins
none_begun (Some writer) (Some reader) begins = begins.none

pub readable_begun : (m : Blocks) (size : ℕ) (u : Option RunWriter) (v : Option RunReader) → BeginsRun u v → IsSpilled m size u → IsLeftReadable m size v
readable_begun m size None None begins stands = tt
readable_begun m size None (Some reader) begins stands = absurd begins
readable_begun m size (Some writer) None begins stands = absurd begins
readable_begun m size (Some writer) (Some reader) begins stands =
    let number : 0 ≡ number_at reader = omega (arith, begins.left, begins.pages) in
    subst (λ k. Stands m size k reader.at reader.left) number
    (subst (λ k. Stands m size 0 k reader.left) (sym begins.at) (subst (Stands m size 0 writer.first) (sym begins.left) stands.stands))

pub owns_begun : (m : Blocks) (u : Option RunWriter) (v : Option RunReader) (block : ℕ) → BeginsRun u v → HasBlockLeft m v block → OwnsBlock m u block
owns_begun m None None block begins left = left
owns_begun m None (Some reader) block begins left = absurd begins
owns_begun m (Some writer) None block begins left = absurd begins
owns_begun m (Some writer) (Some reader) block begins left =
    subst (λ k. HasBlock m writer.first k block) begins.left (subst (λ k. HasBlock m k reader.left block) begins.at left)

-- The pages are those that the lot had.
pub pages_begun : (b c : LotView) → BeginsAt b c → pages_of c ≡ b.stored
pages_begun b c begins =
    stored_same c.stored.room b.stored.room (c.stored.kept ++ kept_in c.feed) b.stored.kept c.stored.run b.stored.run (c.stored.open_page ++ open_page_in c.feed) b.stored.open_page
    begins.room
    (ap (λ ks. ks ++ kept_in c.feed) begins.kept ∙ ap kept_in begins.feed)
    begins.run
    (ap (λ ks. ks ++ open_page_in c.feed) begins.open_page ∙ ap open_page_in begins.feed)

-- What is left of a lot that is read from its first page on.
left_at : (m : Blocks) (s t : PagesView) (f g : FeedView) (size : ℕ) (rows : List (List ℕ)) → HandsOver s t f g → count_other_size size g.blank ≡ 0 → IsSpilled m size s.run
    → text_stored m s ≡ frames rows → All (λ row. length row < 2 ^ 32) rows → IsWithinReach f.reach (sizes_stored m s) rows → HasLeft m g rows
left_at m s t f g size rows over fits stands bytes lengths within =
    let same : pages_left m g.run ≡ spilled m s.run = left_begun m s.run g.run over.begins in
    let spill_sizes : List ℕ = map (λ page. length (used_bytes (as_page page))) (spilled m s.run) in
    let e : map (λ page. length (used_bytes (as_page page))) (pages_left m g.run) ≡ spill_sizes = ap (map (λ page. length (used_bytes (as_page page)))) same in
    subst (λ (h : FeedView). HasLeft m h rows) (sym over.feed) (record {
      size = size;
      sized = fits;
      run = readable_begun m size s.run g.run over.begins stands;
      text = ap (λ ps. all_used_bytes s.kept ++ (joined ps ++ all_used_bytes s.open_page)) same ∙ bytes;
      lengths = lengths;
      reach = subst (λ sizes. IsWithinReach f.reach sizes rows) (ap (λ xs. behind 0 (sizes_of s.kept ++ (xs ++ sizes_of s.open_page))) (sym e))
          (reach_first f.reach (sizes_of s.kept ++ (spill_sizes ++ sizes_of s.open_page)) rows
          (subst (λ sizes. IsWithinReach f.reach sizes rows) (append_assoc (sizes_of s.kept) spill_sizes (sizes_of s.open_page)) within));
    })

-- What segments of another size weigh.
abbrev misfit : ℕ → ℕ → ℕ → ℕ
misfit size = λ _ n. cond (not (n == size)) 1 0

-- The segments that a feed took are out of the purse.
abbrev pub TookOut : FeedView → (q t : List SegmentView) → Type 0
TookOut g q t = (h : ℕ → ℕ → ℕ) → segment_sum h t + segment_sum h g.blank ≡ segment_sum h q

-- The segments for reading have the size of the others.
blank_fits : (size : ℕ) (a : LotView) (g : FeedView) (p q t : List SegmentView) → GaveBack a p q → TookOut g q t → count_other_size size (held a) ≡ 0 → count_other_size size p ≡ 0 → (count_other_size size g.blank ≡ 0) × (count_other_size size t ≡ 0)
blank_fits size a g p q t back took own others =
    let own_weight : segment_sum (misfit size) (held a) ≡ 0 = own in
    let other_weight : segment_sum (misfit size) p ≡ 0 = others in
    let whole : segment_sum (misfit size) (held a) ≡ segment_sum (misfit size) (held_stored (pages_of a)) + segment_sum (misfit size) (lent a.feed) = segment_sum-append (misfit size) (held_stored (pages_of a)) (lent a.feed) in (
      omega (arith, own_weight, other_weight, whole, back (misfit size), took (misfit size)),
      omega (arith, own_weight, other_weight, whole, back (misfit size), took (misfit size)),
    )

-- The lot that was rewound has the pages that it had.
pub pages_rewound : (a b c : LotView) → b.stored ≡ pages_of a → BeginsAt b c → pages_of c ≡ pages_of a
pages_rewound a b c is begins = pages_begun b c begins ∙ is

lent_begun : (b c : LotView) → BeginsAt b c → lent c.feed ≡ c.feed.blank
lent_begun b c begins = ap lent begins.feed

pub moves_rewound : (a b c : LotView) (p q t : List SegmentView) → b.stored ≡ pages_of a → GaveBack a p q → BeginsAt b c → TookOut c.feed q t → MovesSegments a c p t
moves_rewound a b c p q t is back begins took h =
    let pages : segment_sum h (held_stored (pages_of c)) ≡ segment_sum h (held_stored (pages_of a)) = ap (λ u. segment_sum h (held_stored u)) (pages_rewound a b c is begins) in
    let loans : segment_sum h (lent c.feed) ≡ segment_sum h c.feed.blank = ap (segment_sum h) (lent_begun b c begins) in
    omega (arith, back h, took h, pages, loans, segment_sum-append h (held_stored (pages_of a)) (lent a.feed), segment_sum-append h (held_stored (pages_of c)) (lent c.feed))

stands_rewound : (size : ℕ) (m : Blocks) (a b c : LotView) (p q t : List SegmentView) → b.stored ≡ pages_of a → GaveBack a p q → BeginsAt b c → TookOut c.feed q t → StandsWith size a p m → StandsWith size c t m
stands_rewound size m a b c p q t is back begins took st =
    let moved : segment_sum (misfit size) t + segment_sum (misfit size) (held c) ≡ segment_sum (misfit size) p + segment_sum (misfit size) (held a) = moves_rewound a b c p q t is back begins took (misfit size) in
    let own : segment_sum (misfit size) (held a) ≡ 0 = st.own in
    let others : segment_sum (misfit size) p ≡ 0 = st.others in
    let run : c.stored.run ≡ a.stored.run = begins.run ∙ ap (λ (u : PagesView). u.run) is in
    record {
      own = omega (arith, moved, own, others);
      others = omega (arith, moved, own, others);
      spilled = subst (IsSpilled m size) (sym run) st.spilled;
      reads = λ block left. subst (λ u. OwnsBlock m u block) (sym begins.run) (owns_begun m b.stored.run c.feed.run block begins.begins left);
    }

keeps_rewound_at : (m : Blocks) (a b c : LotView) (p q t : List SegmentView) → b.stored ≡ pages_of a → GaveBack a p q → BeginsAt b c → TookOut c.feed q t → Keeps a c p t m m
keeps_rewound_at m a b c p q t is back begins took =
    let run : c.stored.run ≡ a.stored.run = begins.run ∙ ap (λ (u : PagesView). u.run) is in
    record {
      stands = λ size st. stands_rewound size m a b c p q t is back begins took st;
      others = λ k live other. (refl, λ h. other (subst (λ u. OwnsBlock m u k) run h));
      owns = λ k state. subst (λ u. IsFreeOrOwn m u k) (sym run) state;
    }

pub keeps_rewound : (told : Option Blocks) (a b c : LotView) (p q t : List SegmentView) → b.stored ≡ pages_of a → GaveBack a p q → BeginsAt b c → TookOut c.feed q t → BothTold told told (Keeps a c p t)
keeps_rewound None a b c p q t is back begins took = tt
keeps_rewound (Some m) a b c p q t is back begins took = keeps_rewound_at m a b c p q t is back begins took

pub sound_rewound : (told : Option Blocks) (a b c : LotView) (p q t : List SegmentView) → b.stored ≡ pages_of a → GaveBack a p q → BeginsAt b c → TookOut c.feed q t → IsSound told a p → IsSound told c t
sound_rewound None a b c p q t is back begins took sound = tt
sound_rewound (Some m) a b c p q t is back begins took (size, st) =
    (size, stands_rewound size m a b c p q t is back begins took st)

-- The lot's records are those that it had, and all of them are left.
rows_rewound_at : (m : Blocks) (a b c : LotView) (p q t : List SegmentView) (size : ℕ) (rows : List (List ℕ)) → b.stored ≡ pages_of a → b.feed.reach ≡ a.feed.reach → GaveBack a p q → BeginsAt b c → TookOut c.feed q t
    → StandsWith size a p m → HoldsRows m a rows → HoldsRows m c rows × HasLeft m c.feed rows
rows_rewound_at m a b c p q t size rows is reach back begins took st holds =
    let pages : pages_of c ≡ pages_of a = pages_rewound a b c is begins in
    let same : c.feed.reach ≡ a.feed.reach = ap (λ (f : FeedView). f.reach) begins.feed ∙ reach in (
      record {
        bytes = ap (text_stored m) pages ∙ holds.bytes;
        lengths = holds.lengths;
        reach = subst (λ k. IsWithinReach k (sizes_stored m (pages_of c)) rows) (sym same) (subst (λ u. IsWithinReach a.feed.reach (sizes_stored m u) rows) (sym pages) holds.reach);
      },
      left_at m b.stored c.stored b.feed c.feed size rows begins (blank_fits size a c.feed p q t back took st.own st.others).0
          (subst (λ (u : PagesView). IsSpilled m size u.run) (sym is) st.spilled)
          (ap (text_stored m) is ∙ holds.bytes)
          holds.lengths
          (subst (λ k. IsWithinReach k (sizes_stored m b.stored) rows) (sym reach) (subst (λ u. IsWithinReach a.feed.reach (sizes_stored m u) rows) (sym is) holds.reach)),
    )

pub rows_rewound : (told : Option Blocks) (a b c : LotView) (p q t : List SegmentView) → b.stored ≡ pages_of a → b.feed.reach ≡ a.feed.reach → GaveBack a p q → BeginsAt b c → TookOut c.feed q t
    → IsSound told a p → IfTold told (λ m. (rows : List (List ℕ)) → HoldsRows m a rows → HoldsRows m c rows × HasLeft m c.feed rows)
rows_rewound None a b c p q t is reach back begins took sound = tt
rows_rewound (Some m) a b c p q t is reach back begins took (size, st) =
    λ rows holds. rows_rewound_at m a b c p q t size rows is reach back begins took st holds

-- It may be advanced.
pub ready_rewound : (b c : LotView) → BeginsAt b c → length (lent c.feed) ≡ c.feed.reach → IsRewound c
ready_rewound b c begins started = record { started = started; kept = begins.kept; open_page = begins.open_page }

-- The bytes and records of a lot whose feed moved on.
pub known_in : (told : Option Blocks) (a : LotView) → KnowsRows told (IsLeft a told) → IfTold told (λ m. (rows : List (List ℕ)) × HasLeft m a.feed rows)
known_in None a known = tt
known_in (Some m) a known = known

pub rows_out : {E : Type 0} (answer : Result Bool E) (told now : Option Blocks) (a b : LotView) (shown : Option (List ℕ)) → now ≡ told
    → IfOk answer (λ more. IfTold told (λ m. (rows : List (List ℕ)) → HasLeft m a.feed rows → Advances rows more shown (HasLeft m b.feed)))
    → IfOk answer (λ more. (rows : List (List ℕ)) → IsLeft a told rows → Advances rows more shown (IsLeft b now))
rows_out (Err fault) told now a b shown same known = tt
rows_out (Ok more) None now a b shown same known = λ rows left. absurd left
rows_out (Ok more) (Some m) now a b shown same known =
    λ rows left. subst (λ o. Advances rows more shown (IsLeft b o)) (sym same) (known rows left)

pub pages_moved : (s : PagesView) (f g : FeedView) → kept_in g ≡ kept_in f → open_page_in g ≡ open_page_in f → pages_of (record { stored = s; feed = g; read_last = 0 }) ≡ pages_of (record { stored = s; feed = f; read_last = 0 })
pages_moved s f g kept open_page =
    stored_same s.room s.room (s.kept ++ kept_in g) (s.kept ++ kept_in f) s.run s.run (s.open_page ++ open_page_in g) (s.open_page ++ open_page_in f) refl (ap (λ ks. s.kept ++ ks) kept) refl (ap (λ ls. s.open_page ++ ls) open_page)

pub segments_moved : (a b : LotView) → pages_of b ≡ pages_of a → ((h : ℕ → ℕ → ℕ) → segment_sum h (lent b.feed) ≡ segment_sum h (lent a.feed)) → (h : ℕ → ℕ → ℕ) → segment_sum h (held b) ≡ segment_sum h (held a)
segments_moved a b pages loans h =
    let same : segment_sum h (held_stored (pages_of b)) ≡ segment_sum h (held_stored (pages_of a)) = ap (λ u. segment_sum h (held_stored u)) pages in
    omega (arith, same, loans h, segment_sum-append h (held_stored (pages_of a)) (lent a.feed), segment_sum-append h (held_stored (pages_of b)) (lent b.feed))

pub holds_moved : (told : Option Blocks) (a b : LotView) → pages_of b ≡ pages_of a → b.feed.reach ≡ a.feed.reach → IfTold told (λ m. (rows : List (List ℕ)) → HoldsRows m a rows → HoldsRows m b rows)
holds_moved None a b pages reach = tt
holds_moved (Some m) a b pages reach = λ rows holds. record {
  bytes = ap (text_stored m) pages ∙ holds.bytes;
  lengths = holds.lengths;
  reach = subst (λ k. IsWithinReach k (sizes_stored m (pages_of b)) rows) (sym reach) (subst (λ u. IsWithinReach a.feed.reach (sizes_stored m u) rows) (sym pages) holds.reach);
}

stands_moved_at : (m : Blocks) (a b : LotView) (size : ℕ) (purse : List SegmentView) → pages_of b ≡ pages_of a → b.stored.run ≡ a.stored.run → ((h : ℕ → ℕ → ℕ) → segment_sum h (lent b.feed) ≡ segment_sum h (lent a.feed))
    → ((block : ℕ) → HasBlockLeft m b.feed.run block → HasBlockLeft m a.feed.run block) → StandsWith size a purse m → StandsWith size b purse m
stands_moved_at m a b size purse pages run loans among st =
    let same : segment_sum (misfit size) (held b) ≡ segment_sum (misfit size) (held a) = segments_moved a b pages loans (misfit size) in
    let own : segment_sum (misfit size) (held a) ≡ 0 = st.own in
    record {
      own = omega (arith, same, own);
      others = st.others;
      spilled = subst (IsSpilled m size) (sym run) st.spilled;
      reads = λ block left. subst (λ u. OwnsBlock m u block) (sym run) (st.reads block (among block left));
    }

pub stands_moved : (told : Option Blocks) (a b : LotView) → pages_of b ≡ pages_of a → b.stored.run ≡ a.stored.run → ((h : ℕ → ℕ → ℕ) → segment_sum h (lent b.feed) ≡ segment_sum h (lent a.feed))
    → IfTold told (λ m. (block : ℕ) → HasBlockLeft m b.feed.run block → HasBlockLeft m a.feed.run block)
    → IfTold told (λ m. (size : ℕ) (purse : List SegmentView) → StandsWith size a purse m → StandsWith size b purse m)
stands_moved None a b pages run loans among = tt
stands_moved (Some m) a b pages run loans among =
    λ size purse st. stands_moved_at m a b size purse pages run loans among st
