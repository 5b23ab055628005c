-- Lemmas on the steps of an advance: pages that go through the reader.
use Rattle.std.proofs.Common.{◌≡◌, ℕ, suc, ◌+◌, ◌-◌, ◌<◌, ◌≤◌, true, false, Bool, List, [], ◌∷◌, ◌++◌, length, take, drop, Option, Some, None, Result, Ok, Err, IsErrOf, refl, sym, ap, ◌∙◌, subst, arith, append_assoc, length-append, length-drop, length-take, add-one, inl, inr}
use Rattle.std.proofs.lemmas.List.{drop_all, drop_at, take-append-le, drop-append-le, take_all}
use Rattle.std.proofs.lemmas.Bool.{cases_lt}
use Rattle.std.proofs.lemmas.Bool.Decides.{nat_tests}
use Rattle.segment_core.specs.Segments.{SegmentView, count_other_size, segment_sum}
use Rattle.segment_core.proofs.Weighing.{segment_sum-append, segment_sum-cons, segment_sum-push}
use Rattle.flow_outside.specs.Blocks.{Blocks}
use Rattle.flow_outside.specs.Told.{IfTold}
use Rattle.flow_outside.specs.declared.failure.StreamFault.{StreamFault}
use Rattle.flow_outside.specs.declared.failure.StreamFault.TheVariants.{Spill, Damaged}
use Rattle.paged_view.specs.Pages.{used_bytes, all_used_bytes, IsSameSegment}
use Rattle.paged_view.specs.Reading.{Reading, has_spent}
use Rattle.spool.specs.Headers.{next_of}
use Rattle.spool.specs.Runs.{HasBlock, bytes_of, joined, next_in}
use Rattle.spool.specs.Reading.{HasRead, IsUnread}
use Rattle.spool.specs.declared.place.RunReader.{RunReader}
use Rattle.page_feed.specs.Reach.{behind, sizes_of}
use Rattle.page_feed.specs.Feeds.{FeedView, HasBlockLeft, HasLeft, IsLeftReadable, lent, pages_left, pages_to_read}
use Rattle.page_feed.specs.Feeding.{GoesOn, IsFed, PutsAway}
use Rattle.page_feed.proofs.ReachLemmas.{behind_past, sizes_read, spent_less}
use Rattle.page_feed.proofs.LeftLemmas.{left_on, none_left, other_size, sizes_given, told_all, told_join, told_map}

-- The pages' sizes without a page that was read.
sizes_away : (text : List ℕ) (p : SegmentView) (ps : List SegmentView) (xs : List ℕ) → has_spent text (p ∷ ps) ≡ true → behind (length (all_used_bytes ps) - length text) (sizes_of ps ++ xs) ≡ behind (length (all_used_bytes (p ∷ ps)) - length text) (sizes_of (p ∷ ps) ++ xs)
sizes_away text p ps xs spent =
    let less : length text ≤ length (all_used_bytes ps) = spent_less text p ps spent in
    let long : length (all_used_bytes (p ∷ ps)) ≡ length (used_bytes p) + length (all_used_bytes ps) = length-append (used_bytes p) (all_used_bytes ps) in
    let count : length (all_used_bytes (p ∷ ps)) - length text - length (used_bytes p) ≡ length (all_used_bytes ps) - length text = omega (arith, long, less) in
    ap (λ n. behind n (sizes_of ps ++ xs)) (sym count)
    ∙ sym (behind_past (length (all_used_bytes (p ∷ ps)) - length text) (length (used_bytes p)) (sizes_of ps ++ xs) (omega (arith, long, less)))

-- The sizes of the pages that weren't read yet, behind those in the reader.
abbrev sizes_behind : Blocks → FeedView → List ℕ
sizes_behind m a =
    sizes_of a.ahead ++ (sizes_read (pages_left m a.run) ++ sizes_of a.open_page)

-- The first page in the reader, a kept one, was put away.
kept_away_at : (a : FeedView) (p : SegmentView) (ps : List SegmentView) (n : ℕ) (r : Reading) (s : Option (List ℕ)) → a.reader.pages ≡ p ∷ ps → r.pages ≡ ps → r.text ≡ a.reader.text → has_spent a.reader.text (p ∷ ps) ≡ true → a.of_kept ≡ suc n
    → PutsAway a (record a { of_kept = n; passed = a.passed ++ p ∷ []; reader = r; shown = s })
kept_away_at a p ps n r s pages rest text spent count = record {
  room = refl;
  reach = refl;
  text = text;
  ahead = refl;
  run = refl;
  under_way = refl;
  sizes = λ m.
      ap (λ qs. behind (length (all_used_bytes qs) - length r.text) (sizes_of qs ++ sizes_behind m a)) rest
      ∙ ap (λ xs. behind (length (all_used_bytes ps) - length xs) (sizes_of ps ++ sizes_behind m a)) text
      ∙ sizes_away a.reader.text p ps (sizes_behind m a) spent
      ∙ ap (λ qs. behind (length (all_used_bytes qs) - length a.reader.text) (sizes_of qs ++ sizes_behind m a)) (sym pages);
  kept =
      let before : take a.of_kept a.reader.pages ≡ p ∷ take n ps = ap (λ k. take k a.reader.pages) count ∙ ap (take (suc n)) pages in
      append_assoc a.passed (p ∷ []) (take n r.pages ++ a.ahead)
      ∙ ap (λ qs. a.passed ++ (p ∷ (take n qs ++ a.ahead))) rest
      ∙ ap (λ qs. a.passed ++ (qs ++ a.ahead)) (sym before);
  open_page =
      let e : a.of_kept + a.of_run ≡ suc (n + a.of_run) = omega (arith, count) in
      ap (λ qs. drop (n + a.of_run) qs ++ a.open_page) rest
      ∙ ap (λ qs. qs ++ a.open_page) (sym (ap (λ k. drop k a.reader.pages) e ∙ ap (drop (suc (n + a.of_run))) pages));
  weights = λ h.
      ap (λ qs. segment_sum h (take a.of_run (drop n qs) ++ a.blank)) rest
      ∙ ap (λ qs. segment_sum h (take a.of_run qs ++ a.blank)) (sym (ap (λ k. drop k a.reader.pages) count ∙ ap (drop (suc n)) pages));
}

pub kept_away : (a : FeedView) (p : SegmentView) (r : Reading) (passed : List SegmentView) (s : Option (List ℕ)) → passed ≡ a.passed ++ p ∷ []
    → a.reader.pages ≡ p ∷ r.pages → r.text ≡ a.reader.text → true ≡ has_spent a.reader.text a.reader.pages → 0 < a.of_kept
    → PutsAway a (record a { of_kept = a.of_kept - 1; passed = passed; reader = r; shown = s })
kept_away a p r passed s put pages text spent some =
    let count : a.of_kept ≡ suc (a.of_kept - 1) = omega (arith, some) in
    subst (λ ps. PutsAway a (record a { of_kept = a.of_kept - 1; passed = ps; reader = r; shown = s })) (sym put)
    (kept_away_at a p r.pages (a.of_kept - 1) r s pages refl text (ap (has_spent a.reader.text) (sym pages) ∙ sym spent) count)

-- The first page in the reader, one of the run, was put away.
lent_away_at : (a : FeedView) (p : SegmentView) (ps : List SegmentView) (n : ℕ) (r : Reading) (s : Option (List ℕ)) → a.reader.pages ≡ p ∷ ps → r.pages ≡ ps → r.text ≡ a.reader.text → has_spent a.reader.text (p ∷ ps) ≡ true → a.of_kept ≡ 0 → a.of_run ≡ suc n
    → PutsAway a (record a { of_run = n; blank = a.blank ++ p ∷ []; reader = r; shown = s })
lent_away_at a p ps n r s pages rest text spent none count = record {
  room = refl;
  reach = refl;
  text = text;
  ahead = refl;
  run = refl;
  under_way = refl;
  sizes = λ m.
      ap (λ qs. behind (length (all_used_bytes qs) - length r.text) (sizes_of qs ++ sizes_behind m a)) rest
      ∙ ap (λ xs. behind (length (all_used_bytes ps) - length xs) (sizes_of ps ++ sizes_behind m a)) text
      ∙ sizes_away a.reader.text p ps (sizes_behind m a) spent
      ∙ ap (λ qs. behind (length (all_used_bytes qs) - length a.reader.text) (sizes_of qs ++ sizes_behind m a)) (sym pages);
  kept =
      ap (λ k. a.passed ++ (take k r.pages ++ a.ahead)) none
      ∙ ap (λ k. a.passed ++ (take k a.reader.pages ++ a.ahead)) (sym none);
  open_page =
      let e : a.of_kept + a.of_run ≡ suc n = omega (arith, none, count) in
      let f : a.of_kept + n ≡ n = omega (arith, none) in
      ap (λ k. drop k r.pages ++ a.open_page) f
      ∙ ap (λ qs. drop n qs ++ a.open_page) rest
      ∙ ap (λ qs. qs ++ a.open_page) (sym (ap (λ k. drop k a.reader.pages) e ∙ ap (drop (suc n)) pages));
  weights = λ h.
      let after : take n (drop a.of_kept r.pages) ≡ take n ps = ap (λ k. take n (drop k r.pages)) none ∙ ap (take n) rest in
      let before : take a.of_run (drop a.of_kept a.reader.pages) ≡ p ∷ take n ps = ap (λ k. take a.of_run (drop k a.reader.pages)) none ∙ ap (λ k. take k a.reader.pages) count ∙ ap (take (suc n)) pages in
      omega (
        arith,
        ap (λ qs. segment_sum h (qs ++ (a.blank ++ p ∷ []))) after,
        ap (λ qs. segment_sum h (qs ++ a.blank)) before,
        segment_sum-append h (take n ps) (a.blank ++ p ∷ []),
        segment_sum-push h a.blank p,
        segment_sum-cons h p (take n ps ++ a.blank),
        segment_sum-append h (take n ps) a.blank,
      );
}

pub lent_away : (a : FeedView) (p : SegmentView) (r : Reading) (blank : List SegmentView) (s : Option (List ℕ)) → blank ≡ a.blank ++ p ∷ []
    → a.reader.pages ≡ p ∷ r.pages → r.text ≡ a.reader.text → true ≡ has_spent a.reader.text a.reader.pages → a.of_kept ≡ 0 → 0 < a.of_run
    → PutsAway a (record a { of_run = a.of_run - 1; blank = blank; reader = r; shown = s })
lent_away a p r blank s put pages text spent none some =
    let count : a.of_run ≡ suc (a.of_run - 1) = omega (arith, some) in
    subst (λ ps. PutsAway a (record a { of_run = a.of_run - 1; blank = ps; reader = r; shown = s })) (sym put)
    (lent_away_at a p r.pages (a.of_run - 1) r s pages refl text (ap (has_spent a.reader.text) (sym pages) ∙ sym spent) none count)

-- A feed as its fields say it.
pub away_on : (v a b : FeedView) → v ≡ a → PutsAway v b → PutsAway a b
away_on v a b is away = subst (λ w. PutsAway w b) is away

pub goes_on : (t : Option Blocks) (v a b : FeedView) → v ≡ a → GoesOn t v b → GoesOn t a b
goes_on t v a b is goes = subst (λ w. GoesOn t w b) is goes

-- A page went to the reader: the same bytes are left.
text_given : (text given rest : List ℕ) (p : SegmentView) → given ≡ text ++ used_bytes p → given ++ rest ≡ text ++ (used_bytes p ++ rest)
text_given text given rest p is =
    ap (λ xs. xs ++ rest) is ∙ append_assoc text (used_bytes p) rest

length_given : (text given : List ℕ) (p : SegmentView) → given ≡ text ++ used_bytes p → length given ≡ length text + length (used_bytes p)
length_given text given p is = ap length is ∙ length-append text (used_bytes p)

-- The pages up to the last one that the reader was given.
take_given : (ps qs : List SegmentView) (p : SegmentView) (n : ℕ) → qs ≡ ps ++ p ∷ [] → n ≡ length ps → take (n + 1) qs ≡ ps ++ p ∷ []
take_given ps qs p n is count =
    ap (take (n + 1)) is ∙ take_all (n + 1) (ps ++ p ∷ []) (omega (arith, count, length-append ps (p ∷ [])))

-- A kept page went to the reader.
pub kept_given : (t : Option Blocks) (a : FeedView) (p : SegmentView) (qs : List SegmentView) (r : Reading) (s : Option (List ℕ)) → a.ahead ≡ p ∷ qs → r.pages ≡ a.reader.pages ++ p ∷ [] → r.text ≡ a.reader.text ++ used_bytes p
    → length a.reader.text ≤ length (all_used_bytes a.reader.pages) → length a.reader.pages ≡ a.of_kept → a.of_run ≡ 0
    → GoesOn t a (record a { of_kept = a.of_kept + 1; ahead = qs; reader = r; shown = s })
kept_given t a p qs r s ahead pages text within count none =
    let b : FeedView = record a { of_kept = a.of_kept + 1; ahead = qs; reader = r; shown = s } in
    let same : (h : ℕ → ℕ → ℕ) → segment_sum h (lent b) ≡ segment_sum h (lent a) = λ h.
    ap (λ k. segment_sum h (take k (drop (a.of_kept + 1) r.pages) ++ a.blank)) none
    ∙ ap (λ k. segment_sum h (take k (drop a.of_kept a.reader.pages) ++ a.blank)) (sym none) in
    record {
      room = refl;
      reach = refl;
      kept =
          let after : take (a.of_kept + 1) r.pages ≡ a.reader.pages ++ p ∷ [] = take_given a.reader.pages r.pages p a.of_kept pages (sym count) in
          let before : take a.of_kept a.reader.pages ≡ a.reader.pages = take_all a.of_kept a.reader.pages (omega (arith, count)) in
          ap (λ ps. a.passed ++ (ps ++ qs)) after
          ∙ ap (λ ps. a.passed ++ ps) (append_assoc a.reader.pages (p ∷ []) qs)
          ∙ ap (λ ps. a.passed ++ (ps ++ (p ∷ qs))) (sym before)
          ∙ ap (λ ps. a.passed ++ (take a.of_kept a.reader.pages ++ ps)) (sym ahead);
      open_page =
          let long : length r.pages ≡ length a.reader.pages + 1 = ap length pages ∙ length-append a.reader.pages (p ∷ []) in
          ap (λ ps. ps ++ a.open_page) (drop_all (a.of_kept + 1 + a.of_run) r.pages (omega (arith, long, count)) ∙ sym (drop_all (a.of_kept + a.of_run) a.reader.pages (omega (arith, count))));
      weights = same;
      less =
          omega (arith, length_given a.reader.text r.text p text, ap (λ ps. length (all_used_bytes ps)) ahead, length-append (used_bytes p) (all_used_bytes qs));
      rows = told_all t (λ m. (rows : List (List ℕ)) → HasLeft m a rows → HasLeft m b rows) (λ m rows left.
          left_on m a b rows same (λ size fit run. run)
          (text_given a.reader.text r.text (all_used_bytes qs ++ (joined (pages_left m a.run) ++ all_used_bytes a.open_page)) p text
          ∙ ap (λ xs. a.reader.text ++ xs) (sym (append_assoc (used_bytes p) (all_used_bytes qs) (joined (pages_left m a.run) ++ all_used_bytes a.open_page)))
          ∙ ap (λ ps. a.reader.text ++ (all_used_bytes ps ++ (joined (pages_left m a.run) ++ all_used_bytes a.open_page))) (sym ahead))
          refl
          (sizes_given a.reader.pages p a.reader.text r (sizes_of qs ++ (sizes_read (pages_left m a.run) ++ sizes_of a.open_page)) pages text within
          ∙ ap (λ ps. behind (length (all_used_bytes a.reader.pages) - length a.reader.text) (sizes_of a.reader.pages ++ (sizes_of ps ++ (sizes_read (pages_left m a.run) ++ sizes_of a.open_page)))) (sym ahead))
          left);
      among = told_all t (λ m. (block : ℕ) → HasBlockLeft m a.run block → HasBlockLeft m a.run block) (λ m block has. has);
      readable = told_all t (λ m. (size : ℕ) → count_other_size size (lent a) ≡ 0 → IsLeftReadable m size a.run → IsLeftReadable m size a.run) (λ m size fit run. run);
    }

-- The open page went to the reader.
last_given_at : (t : Option Blocks) (a : FeedView) (p : SegmentView) (r : Reading) (s : Option (List ℕ)) → a.ahead ≡ [] → pages_to_read a.run ≡ 0 → a.open_page ≡ p ∷ [] → r.pages ≡ a.reader.pages ++ p ∷ [] → r.text ≡ a.reader.text ++ used_bytes p
    → length a.reader.text ≤ length (all_used_bytes a.reader.pages) → length a.reader.pages ≡ a.of_kept + a.of_run
    → GoesOn t a (record a { open_page = []; reader = r; shown = s })
last_given_at t a p r s ahead run open_page pages text within count =
    let b : FeedView = record a { open_page = []; reader = r; shown = s } in
    let part_of : (n : ℕ) → n ≤ length a.reader.pages → take n r.pages ≡ take n a.reader.pages = λ n low. ap (take n) pages ∙ take-append-le n a.reader.pages (p ∷ []) low in
    let lent_same : take a.of_run (drop a.of_kept r.pages) ≡ take a.of_run (drop a.of_kept a.reader.pages) =
    ap (λ ps. take a.of_run (drop a.of_kept ps)) pages
    ∙ ap (take a.of_run) (drop-append-le a.of_kept a.reader.pages (p ∷ []) (omega (arith, count)))
    ∙ take-append-le a.of_run (drop a.of_kept a.reader.pages) (p ∷ []) (rest_long a.reader.pages a.of_kept a.of_run count) in
    let same : (h : ℕ → ℕ → ℕ) → segment_sum h (lent b) ≡ segment_sum h (lent a) = λ h. ap (λ ps. segment_sum h (ps ++ a.blank)) lent_same in
    record {
      room = refl;
      reach = refl;
      kept = ap (λ ps. a.passed ++ (ps ++ a.ahead)) (part_of a.of_kept (omega (arith, count)));
      open_page =
          ap (λ ps. drop (a.of_kept + a.of_run) ps ++ []) pages
          ∙ ap (λ ps. ps ++ []) (drop_at a.reader.pages (p ∷ []) (a.of_kept + a.of_run) count)
          ∙ sym open_page
          ∙ ap (λ ps. ps ++ a.open_page) (sym (drop_all (a.of_kept + a.of_run) a.reader.pages (omega (arith, count))));
      weights = same;
      less =
          omega (arith, length_given a.reader.text r.text p text, ap (λ ps. length (all_used_bytes ps)) open_page, length-append (used_bytes p) []);
      rows = told_all t (λ m. (rows : List (List ℕ)) → HasLeft m a rows → HasLeft m b rows) (λ m rows left.
          let none : pages_left m a.run ≡ [] = none_left m a.run run in
          left_on m a b rows same (λ size fit given. given)
          (ap (λ ps. r.text ++ (all_used_bytes ps ++ (joined (pages_left m a.run) ++ []))) ahead
          ∙ ap (λ ps. r.text ++ (joined ps ++ [])) none
          ∙ text_given a.reader.text r.text [] p text
          ∙ ap (λ ps. a.reader.text ++ (joined ps ++ (used_bytes p ++ []))) (sym none)
          ∙ ap (λ ps. a.reader.text ++ (all_used_bytes ps ++ (joined (pages_left m a.run) ++ (used_bytes p ++ [])))) (sym ahead)
          ∙ ap (λ ps. a.reader.text ++ (all_used_bytes a.ahead ++ (joined (pages_left m a.run) ++ all_used_bytes ps))) (sym open_page))
          refl
          (ap (λ ps. behind (length (all_used_bytes r.pages) - length r.text) (sizes_of r.pages ++ (sizes_of ps ++ (sizes_read (pages_left m a.run) ++ [])))) ahead
          ∙ ap (λ ps. behind (length (all_used_bytes r.pages) - length r.text) (sizes_of r.pages ++ (sizes_read ps ++ []))) none
          ∙ sizes_given a.reader.pages p a.reader.text r [] pages text within
          ∙ ap (λ ps. behind (length (all_used_bytes a.reader.pages) - length a.reader.text) (sizes_of a.reader.pages ++ (sizes_read ps ++ (length (used_bytes p) ∷ [])))) (sym none)
          ∙ ap (λ ps. behind (length (all_used_bytes a.reader.pages) - length a.reader.text) (sizes_of a.reader.pages ++ (sizes_of ps ++ (sizes_read (pages_left m a.run) ++ (length (used_bytes p) ∷ []))))) (sym ahead)
          ∙ ap (λ ps. behind (length (all_used_bytes a.reader.pages) - length a.reader.text) (sizes_of a.reader.pages ++ (sizes_of a.ahead ++ (sizes_read (pages_left m a.run) ++ sizes_of ps)))) (sym open_page))
          left);
      among = told_all t (λ m. (block : ℕ) → HasBlockLeft m a.run block → HasBlockLeft m a.run block) (λ m block has. has);
      readable = told_all t (λ m. (size : ℕ) → count_other_size size (lent a) ≡ 0 → IsLeftReadable m size a.run → IsLeftReadable m size a.run) (λ m size fit given. given);
    }
  where
    rest_long : (ps : List SegmentView) (k n : ℕ) → length ps ≡ k + n → n ≤ length (drop k ps)
    rest_long ps k n count = omega (arith, count, length-drop k ps)

pub last_given : (t : Option Blocks) (a : FeedView) (p : SegmentView) (rest : List SegmentView) (r : Reading) (s : Option (List ℕ)) → rest ≡ [] → a.ahead ≡ [] → pages_to_read a.run ≡ 0 → a.open_page ≡ rest ++ p ∷ [] → r.pages ≡ a.reader.pages ++ p ∷ [] → r.text ≡ a.reader.text ++ used_bytes p
    → length a.reader.text ≤ length (all_used_bytes a.reader.pages) → length a.reader.pages ≡ a.of_kept + a.of_run → GoesOn t a (record a { open_page = rest; reader = r; shown = s })
last_given t a p rest r s none ahead run open_page pages text within count =
    subst (λ ps. GoesOn t a (record a { open_page = ps; reader = r; shown = s })) (sym none)
    (last_given_at t a p r s ahead run (open_page ∙ ap (λ ps. ps ++ p ∷ []) none) pages text within count)

-- A segment of a purse of one size has that size.
fits_at : (size : ℕ) (xs ys : List SegmentView) (p : SegmentView) → count_other_size size (xs ++ (ys ++ p ∷ [])) ≡ 0 → length p.bytes ≡ size
fits_at size xs ys p none =
    let h : ℕ → ℕ → ℕ = other_size size in
    let all : segment_sum h (xs ++ (ys ++ p ∷ [])) ≡ 0 = none in
    let one : other_size size p.id (length p.bytes) ≡ 0 = omega (arith, all, segment_sum-append h xs (ys ++ p ∷ []), segment_sum-push h ys p) in
    grind (arith, nat_tests)

-- A page of the run was read into a lent segment, which went to the reader.
read_given_at : (t : Option Blocks) (a : FeedView) (p q : SegmentView) (blank : List SegmentView) (run : Option RunReader) (r : Reading) → a.ahead ≡ [] → a.blank ≡ blank ++ p ∷ [] → IsSameSegment p q
    → r.pages ≡ a.reader.pages ++ q ∷ [] → r.text ≡ a.reader.text ++ used_bytes q → length a.reader.text ≤ length (all_used_bytes a.reader.pages) → length a.reader.pages ≡ a.of_kept + a.of_run
    → pages_to_read a.run ≡ pages_to_read run + 1 → length (used_bytes q) ≤ 32752
    → IfTold t (λ m. pages_left m a.run ≡ q.bytes ∷ pages_left m run)
    → IfTold t (λ m. IsLeftReadable m (length p.bytes) run)
    → IfTold t (λ m. (block : ℕ) → HasBlockLeft m run block → HasBlockLeft m a.run block)
    → GoesOn t a (record a { of_run = a.of_run + 1; run = run; blank = blank; reader = r })
read_given_at t a p q blank run r ahead lent_blank same_page pages text within count fewer most read readable among =
    let b : FeedView = record a { of_run = a.of_run + 1; run = run; blank = blank; reader = r } in
    let part_of : (n : ℕ) → n ≤ length a.reader.pages → take n r.pages ≡ take n a.reader.pages = λ n low. ap (take n) pages ∙ take-append-le n a.reader.pages (q ∷ []) low in
    let rest : List SegmentView = drop a.of_kept a.reader.pages in
    let rest_long : length rest ≡ a.of_run = omega (arith, count, length-drop a.of_kept a.reader.pages) in
    let after : take (a.of_run + 1) (drop a.of_kept r.pages) ≡ rest ++ q ∷ [] =
    ap (λ ps. take (a.of_run + 1) (drop a.of_kept ps)) pages
    ∙ ap (take (a.of_run + 1)) (drop-append-le a.of_kept a.reader.pages (q ∷ []) (omega (arith, count)))
    ∙ take_all (a.of_run + 1) (rest ++ q ∷ []) (omega (arith, rest_long, length-append rest (q ∷ []))) in
    let before : take a.of_run rest ≡ rest = take_all a.of_run rest (omega (arith, rest_long)) in
    let same : (h : ℕ → ℕ → ℕ) → segment_sum h (lent b) ≡ segment_sum h (lent a) = λ h.
    let one : h q.id (length q.bytes) ≡ h p.id (length p.bytes) = ap (λ i. h i (length q.bytes)) same_page.id ∙ ap (h p.id) same_page.len in
    omega (
      arith,
      one,
      ap (λ ps. segment_sum h (ps ++ blank)) after,
      ap (λ ps. segment_sum h (ps ++ a.blank)) before,
      ap (λ ps. segment_sum h (rest ++ ps)) lent_blank,
      segment_sum-append h (rest ++ q ∷ []) blank,
      segment_sum-push h rest q,
      segment_sum-append h rest (blank ++ p ∷ []),
      segment_sum-push h blank p,
    ) in
    let readable_on : IfTold t (λ m. (size : ℕ) → count_other_size size (lent a) ≡ 0 → IsLeftReadable m size a.run → IsLeftReadable m size run) =
    told_map t (λ m. IsLeftReadable m (length p.bytes) run) (λ m. (size : ℕ) → count_other_size size (lent a) ≡ 0 → IsLeftReadable m size a.run → IsLeftReadable m size run)
    (λ m stands size fit given. subst (λ n. IsLeftReadable m n run) (fits_at size (take a.of_run rest) blank p (subst (λ ps. count_other_size size (take a.of_run rest ++ ps) ≡ 0) lent_blank fit)) stands) readable in
    record {
      room = refl;
      reach = refl;
      kept = ap (λ ps. a.passed ++ (ps ++ a.ahead)) (part_of a.of_kept (omega (arith, count)));
      open_page =
          let long : length r.pages ≡ length a.reader.pages + 1 = ap length pages ∙ length-append a.reader.pages (q ∷ []) in
          ap (λ ps. ps ++ a.open_page) (drop_all (a.of_kept + (a.of_run + 1)) r.pages (omega (arith, long, count)) ∙ sym (drop_all (a.of_kept + a.of_run) a.reader.pages (omega (arith, count))));
      weights = same;
      less = omega (arith, length_given a.reader.text r.text q text, most, fewer);
      rows = told_join t (λ m. pages_left m a.run ≡ q.bytes ∷ pages_left m run) (λ m. (size : ℕ) → count_other_size size (lent a) ≡ 0 → IsLeftReadable m size a.run → IsLeftReadable m size run) (λ m. (rows : List (List ℕ)) → HasLeft m a rows → HasLeft m b rows)
          (λ m first on rows left.
          left_on m a b rows same on
          (ap (λ ps. r.text ++ (all_used_bytes ps ++ (joined (pages_left m run) ++ all_used_bytes a.open_page))) ahead
          ∙ text_given a.reader.text r.text (joined (pages_left m run) ++ all_used_bytes a.open_page) q text
          ∙ ap (λ xs. a.reader.text ++ xs) (sym (append_assoc (used_bytes q) (joined (pages_left m run)) (all_used_bytes a.open_page)))
          ∙ ap (λ ps. a.reader.text ++ (joined ps ++ all_used_bytes a.open_page)) (sym first)
          ∙ ap (λ ps. a.reader.text ++ (all_used_bytes ps ++ (joined (pages_left m a.run) ++ all_used_bytes a.open_page))) (sym ahead))
          refl
          (ap (λ ps. behind (length (all_used_bytes r.pages) - length r.text) (sizes_of r.pages ++ (sizes_of ps ++ (sizes_read (pages_left m run) ++ sizes_of a.open_page)))) ahead
          ∙ sizes_given a.reader.pages q a.reader.text r (sizes_read (pages_left m run) ++ sizes_of a.open_page) pages text within
          ∙ ap (λ ps. behind (length (all_used_bytes a.reader.pages) - length a.reader.text) (sizes_of a.reader.pages ++ (sizes_read ps ++ sizes_of a.open_page))) (sym first)
          ∙ ap (λ ps. behind (length (all_used_bytes a.reader.pages) - length a.reader.text) (sizes_of a.reader.pages ++ (sizes_of ps ++ (sizes_read (pages_left m a.run) ++ sizes_of a.open_page)))) (sym ahead))
          left)
          read readable_on;
      among = among;
      readable = readable_on;
    }

-- What three steps make of a feed: a segment was taken, a page was read, and it was given to the reader.
read_is : (a b c d : FeedView) (r : Reading) → b ≡ record a { blank = b.blank } → c ≡ record b { run = c.run } → d ≡ record c { of_run = c.of_run + 1; reader = r }
    → d ≡ record a { of_run = a.of_run + 1; run = c.run; blank = b.blank; reader = r }
read_is a b c d r one two three =
    three ∙ ap (λ (v : FeedView). record v { of_run = v.of_run + 1; reader = r }) (two ∙ ap (λ (v : FeedView). record v { run = c.run }) one)

pub read_given : (t : Option Blocks) (a b c d : FeedView) (p q : SegmentView) → b ≡ record a { blank = b.blank } → c ≡ record b { run = c.run } → d ≡ record c { of_run = c.of_run + 1; reader = d.reader }
    → a.ahead ≡ [] → a.blank ≡ b.blank ++ p ∷ [] → IsSameSegment p q → d.reader.pages ≡ c.reader.pages ++ q ∷ [] → d.reader.text ≡ c.reader.text ++ used_bytes q
    → length a.reader.text ≤ length (all_used_bytes a.reader.pages) → length a.reader.pages ≡ a.of_kept + a.of_run
    → pages_to_read b.run ≡ pages_to_read c.run + 1 → length (used_bytes q) ≤ 32752
    → IfTold t (λ m. pages_left m b.run ≡ q.bytes ∷ pages_left m c.run)
    → IfTold t (λ m. IsLeftReadable m (length p.bytes) c.run)
    → IfTold t (λ m. (block : ℕ) → HasBlockLeft m c.run block → HasBlockLeft m b.run block)
    → GoesOn t a d
read_given t a b c d p q one two three ahead blank same_page pages text within count fewer most read readable among =
    let run : b.run ≡ a.run = ap (λ (v : FeedView). v.run) one in
    let reader : c.reader ≡ a.reader = ap (λ (v : FeedView). v.reader) two ∙ ap (λ (v : FeedView). v.reader) one in
    subst (GoesOn t a) (sym (read_is a b c d d.reader one two three))
    (read_given_at t a p q b.blank c.run d.reader ahead blank same_page (pages ∙ ap (λ (v : Reading). v.pages ++ q ∷ []) reader) (text ∙ ap (λ (v : Reading). v.text ++ used_bytes q) reader) within count
    (ap pages_to_read (sym run) ∙ fewer) most
    (subst (λ o. IfTold t (λ m. pages_left m o ≡ q.bytes ∷ pages_left m c.run)) run read) readable
    (subst (λ o. IfTold t (λ m. (block : ℕ) → HasBlockLeft m c.run block → HasBlockLeft m o block)) run among))

-- No page was read: the segment is blank again.
read_failed_at : (t : Option Blocks) (a : FeedView) (p q : SegmentView) (blank : List SegmentView) (run : Option RunReader) → a.blank ≡ blank ++ p ∷ [] → IsSameSegment p q → pages_to_read run ≤ pages_to_read a.run → IfTold t (λ m. run ≡ a.run)
    → GoesOn t a (record a { run = run; blank = blank ++ q ∷ [] })
read_failed_at t a p q blank run lent_blank same_page later still =
    let b : FeedView = record a { run = run; blank = blank ++ q ∷ [] } in
    let mine : List SegmentView = take a.of_run (drop a.of_kept a.reader.pages) in
    let same : (h : ℕ → ℕ → ℕ) → segment_sum h (lent b) ≡ segment_sum h (lent a) = λ h.
    let one : h q.id (length q.bytes) ≡ h p.id (length p.bytes) = ap (λ i. h i (length q.bytes)) same_page.id ∙ ap (h p.id) same_page.len in
    omega (
      arith,
      one,
      ap (λ ps. segment_sum h (mine ++ ps)) lent_blank,
      segment_sum-append h mine (blank ++ q ∷ []),
      segment_sum-push h blank q,
      segment_sum-append h mine (blank ++ p ∷ []),
      segment_sum-push h blank p,
    ) in
    record {
      room = refl;
      reach = refl;
      kept = refl;
      open_page = refl;
      weights = same;
      less = omega (arith, later);
      rows = told_map t (λ m. run ≡ a.run) (λ m. (rows : List (List ℕ)) → HasLeft m a rows → HasLeft m b rows)
          (λ m is rows left. left_on m a b rows same (λ size fit given. subst (IsLeftReadable m size) (sym is) given)
          (ap (λ o. a.reader.text ++ (all_used_bytes a.ahead ++ (joined (pages_left m o) ++ all_used_bytes a.open_page))) is)
          refl
          (ap (λ o. behind (length (all_used_bytes a.reader.pages) - length a.reader.text) (sizes_of a.reader.pages ++ (sizes_of a.ahead ++ (sizes_read (pages_left m o) ++ sizes_of a.open_page)))) is)
          left) still;
      among = told_map t (λ m. run ≡ a.run) (λ m. (block : ℕ) → HasBlockLeft m run block → HasBlockLeft m a.run block) (λ m is block has. subst (λ o. HasBlockLeft m o block) is has) still;
      readable = told_map t (λ m. run ≡ a.run) (λ m. (size : ℕ) → count_other_size size (lent a) ≡ 0 → IsLeftReadable m size a.run → IsLeftReadable m size run) (λ m is size fit given. subst (IsLeftReadable m size) (sym is) given) still;
    }

failed_is : (a b c d : FeedView) (q : SegmentView) → b ≡ record a { blank = b.blank } → c ≡ record b { run = c.run } → d ≡ record c { blank = c.blank ++ q ∷ [] } → d ≡ record a { run = c.run; blank = b.blank ++ q ∷ [] }
failed_is a b c d q one two three =
    let blank : c.blank ≡ b.blank = ap (λ (v : FeedView). v.blank) two in
    three ∙ ap (λ (v : FeedView). record v { blank = c.blank ++ q ∷ [] }) (two ∙ ap (λ (v : FeedView). record v { run = c.run }) one) ∙ ap (λ ps. record a { run = c.run; blank = ps ++ q ∷ [] }) blank

pub read_failed : (t : Option Blocks) (a b c d : FeedView) (p q : SegmentView) → b ≡ record a { blank = b.blank } → c ≡ record b { run = c.run } → d ≡ record c { blank = c.blank ++ q ∷ [] }
    → a.blank ≡ b.blank ++ p ∷ [] → IsSameSegment p q → pages_to_read c.run ≤ pages_to_read b.run → IfTold t (λ m. c.run ≡ b.run) → GoesOn t a d
read_failed t a b c d p q one two three blank same_page later still =
    let run : b.run ≡ a.run = ap (λ (v : FeedView). v.run) one in
    subst (GoesOn t a) (sym (failed_is a b c d q one two three))
    (read_failed_at t a p q b.blank c.run blank same_page (omega (arith, later, ap pages_to_read run)) (subst (λ o. IfTold t (λ m. c.run ≡ o)) run still))

-- Where the run has ended, nothing changed.
pub read_nothing : (a b c d : FeedView) (p q : SegmentView) → b ≡ record a { blank = b.blank } → c ≡ record b { run = c.run } → d ≡ record c { blank = c.blank ++ q ∷ [] } → a.blank ≡ b.blank ++ p ∷ [] → q ≡ p → c.run ≡ b.run → d ≡ a
read_nothing a b c d p q one two three blank same still =
    let run : c.run ≡ a.run = still ∙ ap (λ (v : FeedView). v.run) one in
    failed_is a b c d q one two three
    ∙ ap (λ o. record a { run = o; blank = b.blank ++ q ∷ [] }) run
    ∙ ap (λ ps. record a { blank = ps }) (ap (λ x. b.blank ++ x ∷ []) same ∙ sym blank)

-- The lent segment that a page is read into has the size of the run's pages.
pub readable_first : (t : Option Blocks) (a b : FeedView) (p : SegmentView) → IfTold t (λ m. (rows : List (List ℕ)) × HasLeft m a rows) → a.blank ≡ b.blank ++ p ∷ [] → b.run ≡ a.run → IfTold t (λ m. IsLeftReadable m (length p.bytes) b.run)
readable_first t a b p known blank run =
    told_map t (λ m. (rows : List (List ℕ)) × HasLeft m a rows) (λ m. IsLeftReadable m (length p.bytes) b.run)
    (λ m is.
    let left = is.1 in
    let mine : List SegmentView = take a.of_run (drop a.of_kept a.reader.pages) in
    let size : length p.bytes ≡ left.size = fits_at left.size mine b.blank p (subst (λ ps. count_other_size left.size (mine ++ ps) ≡ 0) blank left.sized) in
    subst (λ n. IsLeftReadable m n b.run) (sym size) (subst (IsLeftReadable m left.size) (sym run) left.run)) known

-- After a fault the run is what it was, where the disk tells.
pub still_told : (t : Option Blocks) (run next : Option RunReader) (answer : Result Bool StreamFault) (fault : StreamFault) → answer ≡ Err fault
    → (IsErrOf answer Spill → next ≡ run) → ((block : ℕ) → IsErrOf answer (Damaged block) → t ≡ None) → IfTold t (λ m. next ≡ run)
still_told t run next (Ok more) fault is spill damaged = absurd cc
still_told t run next (Err Spill) fault is spill damaged =
    told_all t (λ m. next ≡ run) (λ m. spill refl)
still_told None run next (Err (Damaged block)) fault is spill damaged = tt
still_told (Some m) run next (Err (Damaged block)) fault is spill damaged =
    let none = damaged block refl in absurd cc

-- A segment is lent that holds no page, where the reader has room for a page.
pub blank_there : (a : FeedView) → length (lent a) ≡ a.reach → length a.reader.pages < a.reach → a.of_kept + a.of_run ≤ length a.reader.pages → 0 < length a.blank
blank_there a started space counts =
    omega (arith, started, space, counts, length-append (take a.of_run (drop a.of_kept a.reader.pages)) a.blank, length-take a.of_run (drop a.of_kept a.reader.pages))

-- Where kept pages are ahead, the reader has kept ones alone.
pub count_kept : (kept run pages ahead : ℕ) → kept + run ≤ pages → (0 < run → ahead ≡ 0) → (kept + run < pages → ahead ≡ 0) → 0 < ahead → (pages ≡ kept) × (run ≡ 0)
count_kept kept run pages ahead counts first out some =
    let none : run ≡ 0 = elim (cases_lt 0 run) [ inl more ↦ absurd (omega (arith, first more, some)) | inr low ↦ omega (arith, low) ] in
    let all : pages ≡ kept = elim (cases_lt (kept + run) pages) [ inl more ↦ absurd (omega (arith, out more, some)) | inr low ↦ omega (arith, low, counts, none) ] in (
      all,
      none,
    )

-- Where pages of the run are left, the reader doesn't have the open page.
pub count_read : (a : FeedView) → IsFed a → 0 < pages_to_read a.run → length a.reader.pages ≡ a.of_kept + a.of_run
count_read a fed some = elim (cases_lt (a.of_kept + a.of_run) (length a.reader.pages)) [
  | inl more ↦ absurd (omega (arith, (fed.given_out more).run, some))
  | inr low ↦ omega (arith, low, fed.counts)
]

-- What is left of a run after an answer to a page.
pub among_read : (t : Option Blocks) (old new : RunReader) (page : List ℕ) (same : Type 0) (answer : Result Bool StreamFault)
    → (answer ≡ Ok false → (new ≡ old) × same)
    → (answer ≡ Ok true → HasRead old new page)
    → (answer ≡ Ok true → IfTold t (λ m. m old.at ≡ Some (Some page)))
    → (IsErrOf answer Spill → new ≡ old)
    → ((block : ℕ) → IsErrOf answer (Damaged block) → IsUnread old new page block)
    → IfTold t (λ m. (block : ℕ) → HasBlock m new.at new.left block → HasBlock m old.at old.left block)
among_read t old new page same (Ok true) end more read spill damaged =
    let h = more refl in
    told_map t (λ m. m old.at ≡ Some (Some page)) (λ m. (block : ℕ) → HasBlock m new.at new.left block → HasBlock m old.at old.left block)
    (λ m holds block has.
    let goes : new.at ≡ next_in m old.at = h.next ∙ ap (λ o. next_of (bytes_of o)) (sym holds) in
    subst (λ n. HasBlock m old.at n block) (sym (h.fewer ∙ add-one new.left)) (inr (subst (λ b. HasBlock m b new.left block) goes has))) (read refl)
among_read t old new page same (Ok false) end more read spill damaged =
    told_all t (λ m. (block : ℕ) → HasBlock m new.at new.left block → HasBlock m old.at old.left block)
    (λ m block has. subst (λ (r : RunReader). HasBlock m r.at r.left block) (end refl).0 has)
among_read t old new page same (Err Spill) end more read spill damaged =
    told_all t (λ m. (block : ℕ) → HasBlock m new.at new.left block → HasBlock m old.at old.left block)
    (λ m block has. subst (λ (r : RunReader). HasBlock m r.at r.left block) (spill refl) has)
among_read t old new page same (Err (Damaged number)) end more read spill damaged =
    let h = damaged number refl in
    told_all t (λ m. (block : ℕ) → HasBlock m new.at new.left block → HasBlock m old.at old.left block)
    (λ m block has. subst (λ n. HasBlock m old.at n block) h.left (subst (λ b. HasBlock m b new.left block) h.at has))

-- The same of a run that may be none.
pub among_some : (t : Option Blocks) (run : Option RunReader) (old new : RunReader) → run ≡ Some old → IfTold t (λ m. (block : ℕ) → HasBlock m new.at new.left block → HasBlock m old.at old.left block)
    → IfTold t (λ m. (block : ℕ) → HasBlock m new.at new.left block → HasBlockLeft m run block)
among_some t run old new is among =
    subst (λ o. IfTold t (λ m. (block : ℕ) → HasBlock m new.at new.left block → HasBlockLeft m o block)) (sym is) among
