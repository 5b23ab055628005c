-- A record that is appended stands behind the others.
use Rattle.std.proofs.Common.{◌≡◌, inl, inr, cond, not, ◌==◌, ℕ, zero, suc, ◌+◌, ◌-◌, ◌*◌, ◌/◌, ◌^◌, ◌<◌, ◌≤◌, All, List, [], ◌∷◌, ◌++◌, length, map, flat_map, replicate, sum, Result, Ok, Err, OnOk, Option, Some, None, refl, sym, ap, ◌∙◌, subst, arith, append_assoc, append-nil, length-append, length-drop}
use Rattle.std.proofs.lemmas.Bool.{cases_lt}
use Rattle.std.proofs.lemmas.List.{length-take-le, length-map}
use Rattle.std.proofs.lemmas.List.Sums.{sum_by-append, sum_by-cons}
use Rattle.std.proofs.lemmas.List.Folds.{sum_by-replicate}
use Rattle.std.proofs.lemmas.List.Elements.{All-append, All-cons, All-map, All-nil, All-push}
use Rattle.std.proofs.lemmas.Grind.{flat_map-append}
use Rattle.segment_core.specs.Segments.{SegmentView, count_other_size, segment_sum}
use Rattle.segment_core.proofs.Weighing.{fits_first, segment_sum-append}
use Rattle.flow_outside.specs.Blocks.{Blocks, BothTold}
use Rattle.flow_types.specs.Records.{framed, frames}
use Rattle.paged_view.specs.Pages.{body, page_at, used_bytes, all_used_bytes, used}
use Rattle.paged_view.proofs.RecordLemmas.{length-framed}
use Rattle.spool.specs.Headers.{IsSound, as_page}
use Rattle.spool.specs.Runs.{Stands, joined, next_in, page_in, pages_at}
use Rattle.spool.specs.declared.writer.RunWriter.{RunWriter}
use Rattle.page_feed.specs.Feeds.{FeedView, stopped}
use Rattle.page_feed.specs.Reach.{IsWithinReach, sizes_of}
use Rattle.page_feed.specs.ReachLaw.{IsUnderWay}
use Rattle.page_feed.proofs.LawLemmas.{appending_stays}
use Rattle.spool.specs.Spilling.{IsSpilled, spilled}
use Rattle.lot_store.specs.Stores.{ArePages, PagesView, StandsWith as StoredStands, held as held_stored, sizes as sizes_stored, stored_sizes, text as text_stored}
use Rattle.lot_store.specs.Keeping.{AddsFullPages as StoredAddsFull, AddsText as StoredAdds, Keeps as StoredKeeps}
use Rattle.lot_store.specs.Lots.{LotView, pages_of}
use Rattle.lot_store.specs.LotKeeping.{AddsRow}
use Rattle.spool.proofs.SpillLemmas.{told_both, told_with}
use Rattle.lot_store.proofs.LotLemmas.{nothing}
use Rattle.lot_store.proofs.RestLemmas.{GaveBack, pages_at_rest, stands_in}

-- The lengths of lists, together.
sum_lengths : {X : Type 0} (f : X → List ℕ) (xs : List X) → sum (map (λ x. length (f x)) xs) ≡ length (flat_map f xs)
sum_lengths f [] = refl
sum_lengths f (x ∷ xs) =
    omega (arith, sum_by-cons (λ (n : ℕ). n) (length (f x)) (map (λ y. length (f y)) xs), sum_lengths f xs, length-append (f x) (flat_map f xs))

sum-append : (xs ys : List ℕ) → sum (xs ++ ys) ≡ sum xs + sum ys
sum-append xs ys = sum_by-append (λ (n : ℕ). n) xs ys

-- the sizes of spilled pages
abbrev spilled_sizes : Blocks → PagesView → List ℕ
spilled_sizes m s = map (λ page. length (used_bytes (as_page page))) (spilled m s.run)

-- Pages have as many used bytes as they stand for.
pub sum_sizes : (m : Blocks) (s : PagesView) → sum (sizes_stored m s) ≡ length (text_stored m s)
sum_sizes m s =
    omega (
      arith,
      sum-append (stored_sizes m s) (sizes_of s.open_page),
      sum-append (sizes_of s.kept) (spilled_sizes m s),
      sum_lengths used_bytes s.kept,
      sum_lengths (λ page. used_bytes (as_page page)) (spilled m s.run),
      sum_lengths used_bytes s.open_page,
      length-append (all_used_bytes s.kept) (joined (spilled m s.run) ++ all_used_bytes s.open_page),
      length-append (joined (spilled m s.run)) (all_used_bytes s.open_page),
    )

-- Some bytes of each spilled page are used.
sound_used : (number : ℕ) (page : List ℕ) → IsSound number page → 0 < length (used_bytes (as_page page))
sound_used number page sound =
    omega (arith, sound.some, length-take-le (used (as_page page)) (body (as_page page)) sound.within)

pages_used : (m : Blocks) (size number at count : ℕ) → Stands m size number at count → All (λ page. 0 < length (used_bytes (as_page page))) (pages_at m at count)
pages_used m size number at zero stands = All-nil (λ page. 0 < length (used_bytes (as_page page)))
pages_used m size number at (suc count) (first, rest) =
    All-cons (λ page. 0 < length (used_bytes (as_page page))) (page_in m at) (pages_at m (next_in m at) count) (sound_used number (page_in m at) first.sound) (pages_used m size (number + 1) (next_in m at) count rest)

spilled_used : (m : Blocks) (size : ℕ) (run : Option RunWriter) → IsSpilled m size run → All (λ page. 0 < length (used_bytes (as_page page))) (spilled m run)
spilled_used m size None stands = All-nil (λ page. 0 < length (used_bytes (as_page page)))
spilled_used m size (Some run) stands = pages_used m size 0 run.first run.pages stands.stands

stored_used : (m : Blocks) (size : ℕ) (s : PagesView) → ArePages s → IsSpilled m size s.run → All (λ k. 0 < k) (stored_sizes m s)
stored_used m size s are stands =
    All-append (λ k. 0 < k) (sizes_of s.kept) (spilled_sizes m s)
    (All-map (λ k. 0 < k) (λ page. length (used_bytes page)) s.kept are.filled)
    (All-map (λ k. 0 < k) (λ page. length (used_bytes (as_page page))) (spilled m s.run) (spilled_used m size s.run stands))

abbrev misfit : ℕ → ℕ → ℕ → ℕ
misfit size = λ _ n. cond (not (n == size)) 1 0

-- What is used of the open page.
under_way : (size : ℕ) (ps : List SegmentView) → length ps ≤ 1 → (0 < length ps → 0 < used (page_at ps 0)) → used (page_at ps 0) ≤ length (body (page_at ps 0)) → count_other_size size ps ≡ 0 → IsUnderWay (size - 16) (sizes_of ps)
under_way size [] one some within fits = tt
under_way size (p ∷ []) one some within fits =
    let long : length p.bytes ≡ size = fits_first size p [] fits in
    let all : length (used_bytes p) ≡ used p = length-take-le (used p) (body p) within in
    (omega (arith, all, some (omega arith)), omega (arith, all, within, long, length-drop 16 p.bytes))
under_way size (p ∷ q ∷ ps) one some within fits = absurd (omega (arith, one))

last_fits : (size : ℕ) (s : PagesView) → count_other_size size (held_stored s) ≡ 0 → count_other_size size s.open_page ≡ 0
last_fits size s fits =
    let all : segment_sum (misfit size) (held_stored s) ≡ 0 = fits in
    omega (arith, all, segment_sum-append (misfit size) s.kept s.open_page)

-- A open page of a size of none has none.
none_under : (page : ℕ) (sizes : List ℕ) → IsUnderWay page sizes → page ≤ 0 → sum sizes ≡ 0
none_under page [] under none = refl
none_under page (x ∷ []) under none = absurd (omega (arith, under.0, under.1, none))
none_under page (x ∷ y ∷ sizes) under none = absurd under

-- The pages in order: those that stay, the full ones, and the open page.
sizes_grown : (m n : Blocks) (s t : PagesView) (count page : ℕ) → stored_sizes n t ≡ stored_sizes m s ++ replicate count page → sizes_stored n t ≡ stored_sizes m s ++ (replicate count page ++ sizes_of t.open_page)
sizes_grown m n s t count page full =
    ap (λ xs. xs ++ sizes_of t.open_page) full ∙ append_assoc (stored_sizes m s) (replicate count page) (sizes_of t.open_page)

-- How many bytes they have.
bytes_grown : (m n : Blocks) (s t : PagesView) (count page : ℕ) (row : List ℕ) → stored_sizes n t ≡ stored_sizes m s ++ replicate count page → text_stored n t ≡ text_stored m s ++ framed row
    → sum (stored_sizes m s ++ (replicate count page ++ sizes_of t.open_page)) ≡ sum (stored_sizes m s ++ sizes_of s.open_page) + (4 + length row)
bytes_grown m n s t count page row full added =
    omega (
      arith,
      ap sum (sizes_grown m n s t count page full),
      sum_sizes n t,
      ap length added,
      length-append (text_stored m s) (framed row),
      length-framed row,
      sum_sizes m s,
    )

-- The sum of its parts.
sum_grown : (stay open_page after : List ℕ) (count page n : ℕ) → sum (stay ++ (replicate count page ++ after)) ≡ sum (stay ++ open_page) + n → count * page + sum after ≡ sum open_page + n
sum_grown stay open_page after count page n bytes =
    omega (
      arith,
      bytes,
      sum-append stay (replicate count page ++ after),
      sum-append (replicate count page) after,
      sum-append stay open_page,
      sum_by-replicate (λ (k : ℕ). k) count page,
    )

some_page : (open_page after : List ℕ) (count page n : ℕ) → IsUnderWay page after → count * page + sum after ≡ sum open_page + n → 0 < n → 0 < page
some_page open_page after count page n under bytes some = elim (cases_lt 0 page) [
  | inl more ↦ more
  | inr none ↦
      let zero_page : page ≡ 0 = omega (arith, none) in
      let product : count * page ≡ 0 = ap (λ k. count * k) zero_page ∙ (let e : count * 0 ≡ 0 = omega arith in e) in
      absurd (omega (arith, bytes, some, product, none_under page after under none))
]

-- Where no page was stored, the open page is still there.
same_page : (open_page after : List SegmentView) (count page n : ℕ) → length open_page ≤ 1 → count * page + sum (sizes_of after) ≡ sum (sizes_of open_page) + n → 0 < n → count ≡ 0 → length (sizes_of open_page) ≤ length (sizes_of after)
same_page open_page [] count page n one bytes some none =
    let product : count * page ≡ 0 = ap (λ k. k * page) none ∙ (let e : 0 * page ≡ 0 = omega arith in e) in
    absurd (omega (arith, bytes, some, product))
same_page open_page (p ∷ after) count page n one bytes some none =
    omega (arith, one, length-map open_page (λ q. length (used_bytes q)))

-- The records are within reach with the one that was appended.
reach_grown : (m n : Blocks) (s t : PagesView) (q r : List SegmentView) (size reach count : ℕ) (rows : List (List ℕ)) (row : List ℕ) → ArePages s → ArePages t
    → StoredStands size s q m → StoredStands size t r n
    → stored_sizes n t ≡ stored_sizes m s ++ replicate count (size - 16) → text_stored n t ≡ text_stored m s ++ framed row
    → text_stored m s ≡ frames rows → (4 + length row + (size - 16) - 1) / (size - 16) + 1 ≤ reach
    → IsWithinReach reach (sizes_stored m s) rows → IsWithinReach reach (sizes_stored n t) (rows ++ row ∷ [])
reach_grown m n s t q r size reach count rows row ares aret stands after full added bytes bound within =
    let under_s : IsUnderWay (size - 16) (sizes_of s.open_page) = under_way size s.open_page ares.one ares.some ares.within (last_fits size s stands.own) in
    let under_t : IsUnderWay (size - 16) (sizes_of t.open_page) = under_way size t.open_page aret.one aret.some aret.within (last_fits size t after.own) in
    let grown : sum (stored_sizes m s ++ (replicate count (size - 16) ++ sizes_of t.open_page)) ≡ sum (stored_sizes m s ++ sizes_of s.open_page) + (4 + length row) = bytes_grown m n s t count (size - 16) row full added in
    let sums : count * (size - 16) + sum (sizes_of t.open_page) ≡ sum (sizes_of s.open_page) + (4 + length row) = sum_grown (stored_sizes m s) (sizes_of s.open_page) (sizes_of t.open_page) count (size - 16) (4 + length row) grown in
    subst (λ all. IsWithinReach reach all (rows ++ row ∷ [])) (sym (sizes_grown m n s t count (size - 16) full))
    (appending_stays reach (size - 16) count (stored_sizes m s) (sizes_of s.open_page) (sizes_of t.open_page) rows row
    (record {
      some = some_page (sizes_of s.open_page) (sizes_of t.open_page) count (size - 16) (4 + length row) under_t sums (omega arith);
      used = stored_used m size s ares stands.spilled;
      last_page = under_s;
      after_page = under_t;
      same_page = λ none. same_page s.open_page t.open_page count (size - 16) (4 + length row) ares.one sums (omega arith) none;
      bytes = grown;
    })
    (ap length (sym bytes) ∙ sym (sum_sizes m s)) bound within)

frames_more : (rows : List (List ℕ)) (row : List ℕ) → frames rows ++ framed row ≡ frames (rows ++ row ∷ [])
frames_more rows row =
    ap (λ xs. frames rows ++ xs) (sym (append-nil (framed row))) ∙ sym (flat_map-append framed rows (row ∷ []))

row_at : (m n : Blocks) (a b : LotView) (s : PagesView) (p q t : List SegmentView) (row : List ℕ) → s ≡ pages_of a → b.feed ≡ stopped a.feed.room a.feed.reach → GaveBack a p q → ArePages s → ArePages b.stored → length row < 2 ^ 32
    → StoredKeeps s b.stored q t m n → StoredAddsFull s b.stored q m n → StoredAdds s b.stored (framed row) m n → AddsRow a b p row m n
row_at m n a b s p q t row is rest back ares areb short keeps full added size st rows holds bound =
    let stands : StoredStands size s q m = stands_in size a s p q m is back st in
    let one = full size stands in
    let bytes : text_stored m s ≡ frames rows = ap (text_stored m) is ∙ holds.bytes in
    let within : IsWithinReach a.feed.reach (sizes_stored m s) rows = subst (λ u. IsWithinReach a.feed.reach (sizes_stored m u) rows) (sym is) holds.reach in
    let pages : pages_of b ≡ b.stored = pages_at_rest b a.feed.room a.feed.reach rest in
    let reach : IsWithinReach a.feed.reach (sizes_stored n b.stored) (rows ++ row ∷ []) = reach_grown m n s b.stored q t size a.feed.reach one.0 rows row ares areb stands (keeps.stands size stands) one.1 added bytes bound within in
    record {
      bytes = ap (text_stored n) pages ∙ added ∙ ap (λ xs. xs ++ framed row) bytes ∙ frames_more rows row;
      lengths = All-push (λ (r : List ℕ). length r < 2 ^ 32) rows row holds.lengths short;
      reach = subst (λ (k : ℕ). IsWithinReach k (sizes_stored n (pages_of b)) (rows ++ row ∷ [])) (sym (ap (λ (f : FeedView). f.reach) rest))
          (subst (λ u. IsWithinReach a.feed.reach (sizes_stored n u) (rows ++ row ∷ [])) (sym pages) reach);
    }

-- Where the disk tells, and the record was appended.
pub lot_row : {E : Type 0} (answer : Result Unit E) (told now : Option Blocks) (a b : LotView) (s : PagesView) (p q t : List SegmentView) (row : List ℕ) → s ≡ pages_of a → b.feed ≡ stopped a.feed.room a.feed.reach → GaveBack a p q → ArePages s → ArePages b.stored → length row < 2 ^ 32
    → BothTold told now (StoredKeeps s b.stored q t) → OnOk answer (BothTold told now (StoredAddsFull s b.stored q)) → OnOk answer (BothTold told now (StoredAdds s b.stored (framed row)))
    → OnOk answer (BothTold told now (AddsRow a b p row))
lot_row (Err fault) told now a b s p q t row is rest back ares areb short keeps full added = tt
lot_row (Ok done) told now a b s p q t row is rest back ares areb short keeps full added =
    told_with told now (λ m. Unit {0}) (λ m n. StoredKeeps s b.stored q t m n × (StoredAddsFull s b.stored q m n × StoredAdds s b.stored (framed row) m n)) (AddsRow a b p row)
    (λ m n _ h. row_at m n a b s p q t row is rest back ares areb short h.0 h.1.0 h.1.1)
    (nothing told) (told_both told now _ _ keeps (told_both told now _ _ full added))
