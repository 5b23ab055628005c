-- Lemmas on the lists of a feed.
use Rattle.std.proofs.Common.{◌≡◌, ℕ, zero, suc, ◌+◌, ◌≤◌, List, [], ◌∷◌, ◌++◌, length, take, drop, reverse, refl, ap, ◌∙◌, arith, append_assoc, append-nil, length-append, length-drop, length-take, add-one}
use Rattle.std.proofs.lemmas.List.{drop-drop, reverse-append, reverse-reverse}
use Rattle.page_feed.specs.Feeds.{FeedView, held, kept_in, open_page_in, lent}
use Rattle.segment_core.specs.Segments.{SegmentView, segment_sum}
use Rattle.segment_core.proofs.Weighing.{segment_sum-append}

-- The next page of a list, of which `i` were taken.
taken_suc : (ps rest : List SegmentView) (i : ℕ) (page : SegmentView) → drop i ps ≡ page ∷ rest → (take (suc i) ps ≡ take i ps ++ page ∷ []) × (drop (suc i) ps ≡ rest)
taken_suc [] rest zero page is = absurd cc
taken_suc [] rest (suc i) page is = absurd cc
taken_suc (p ∷ ps) rest zero page is =
    (let same : p ≡ page = cc in ap (λ q. q ∷ []) same, let same : ps ≡ rest = cc in same)
taken_suc (p ∷ ps) rest (suc i) page is =
    let more = taken_suc ps rest i page is in (ap (λ qs. p ∷ qs) more.0, more.1)

pub take_next : (ps rest : List SegmentView) (i : ℕ) (page : SegmentView) → drop i ps ≡ page ∷ rest → take (i + 1) ps ≡ take i ps ++ page ∷ []
take_next ps rest i page is =
    ap (λ k. take k ps) (add-one i) ∙ (taken_suc ps rest i page is).0

pub drop_next : (ps rest : List SegmentView) (i : ℕ) (page : SegmentView) → drop i ps ≡ page ∷ rest → drop (i + 1) ps ≡ rest
drop_next ps rest i page is =
    ap (λ k. drop k ps) (add-one i) ∙ (taken_suc ps rest i page is).1

pub weigh_next : (h : ℕ → ℕ → ℕ) (ps rest : List SegmentView) (i : ℕ) (page : SegmentView) → drop i ps ≡ page ∷ rest → segment_sum h (take (i + 1) ps) ≡ segment_sum h (take i ps) + segment_sum h (page ∷ [])
weigh_next h ps rest i page is =
    ap (segment_sum h) (take_next ps rest i page is) ∙ segment_sum-append h (take i ps) (page ∷ [])

-- One element stands the same way round.
pub reverse_one : {A : Type 0} → (xs : List A) → length xs ≤ 1 → reverse xs ≡ xs
reverse_one [] few = refl
reverse_one (x ∷ []) few = refl
reverse_one (x ∷ y ∷ xs) few = absurd (omega (arith, few))

-- No element is left.
pub none_there : {A : Type 0} → (xs : List A) → length xs ≡ 0 → xs ≡ []
none_there [] is = refl
none_there (x ∷ xs) is = absurd (omega (arith, is))

-- The kept pages, as they are put together when a feed stops: those in the reader behind the ones that were passed, and
-- these turned over in front of the ones that are ahead.
pub stopped_kept : (old new passed passed' ahead ahead' ps : List SegmentView) (k : ℕ) → passed' ≡ passed ++ take k ps → ahead' ≡ ahead ++ reverse passed' → new ≡ old ++ reverse ahead' → new ≡ old ++ (passed ++ (take k ps ++ reverse ahead))
stopped_kept old new passed passed' ahead ahead' ps k moved turned put =
    put
    ∙ ap (λ xs. old ++ reverse xs) turned
    ∙ ap (λ xs. old ++ xs) (reverse-append ahead (reverse passed') ∙ ap (λ xs. xs ++ reverse ahead) (reverse-reverse passed' ∙ moved) ∙ append_assoc passed (take k ps) (reverse ahead))

-- The open page.
pub stopped_last : (old mid new ps qs rs mine : List SegmentView) (k n : ℕ) → qs ≡ drop k ps → rs ≡ drop n qs → mid ≡ old ++ rs → new ≡ mid ++ reverse mine → length mine ≤ 1 → new ≡ old ++ (drop (k + n) ps ++ mine)
stopped_last old mid new ps qs rs mine k n one two three four few =
    four
    ∙ ap (λ xs. xs ++ reverse mine) three
    ∙ append_assoc old rs (reverse mine)
    ∙ ap (λ xs. old ++ (xs ++ reverse mine)) (two ∙ ap (drop n) one ∙ drop-drop n k ps)
    ∙ ap (λ xs. old ++ (drop (k + n) ps ++ xs)) (reverse_one mine few)

-- The lists of a feed that begins.
pub begun_ahead : (kept ahead to : List SegmentView) → reverse ahead ≡ [] → to ≡ ahead ++ reverse kept → reverse to ≡ kept
begun_ahead kept ahead to none put =
    ap reverse put ∙ reverse-append ahead (reverse kept) ∙ ap (λ xs. xs ++ reverse ahead) (reverse-reverse kept) ∙ ap (λ xs. kept ++ xs) none ∙ append-nil kept

pub begun_last : (open_page mine to : List SegmentView) → mine ≡ [] → to ≡ mine ++ reverse open_page → length open_page ≤ 1 → to ≡ open_page
begun_last open_page mine to none put few =
    put ∙ ap (λ xs. xs ++ reverse open_page) none ∙ reverse_one open_page few

-- A feed that holds no segment has none in any of its lists.
pub record HoldsNone (f : FeedView) : Type 0 where
  pub reader : length f.reader.pages ≡ 0
  pub passed : length f.passed ≡ 0
  pub ahead : length f.ahead ≡ 0
  pub open_page : length f.open_page ≡ 0
  pub blank : length f.blank ≡ 0

pub holds_none : (f : FeedView) → held f ≡ [] → f.of_kept + f.of_run ≤ length f.reader.pages → HoldsNone f
holds_none f none counts =
    let ps : List SegmentView = f.reader.pages in
    let all : length (kept_in f) + (length (open_page_in f) + length (lent f)) ≡ 0 = omega (arith, ap length none, length-append (kept_in f) (open_page_in f ++ lent f), length-append (open_page_in f) (lent f)) in
    let kept : length (kept_in f) ≡ length f.passed + (length (take f.of_kept ps) + length f.ahead) = omega (arith, length-append f.passed (take f.of_kept ps ++ f.ahead), length-append (take f.of_kept ps) f.ahead) in
    let open_page : length (open_page_in f) ≡ length (drop (f.of_kept + f.of_run) ps) + length f.open_page = length-append (drop (f.of_kept + f.of_run) ps) f.open_page in
    let mine : length (lent f) ≡ length (take f.of_run (drop f.of_kept ps)) + length f.blank = length-append (take f.of_run (drop f.of_kept ps)) f.blank in
    record {
      reader = omega (arith, all, kept, open_page, mine, counts, length-take f.of_kept ps, length-drop (f.of_kept + f.of_run) ps, length-take f.of_run (drop f.of_kept ps), length-drop f.of_kept ps);
      passed = omega (arith, all, kept);
      ahead = omega (arith, all, kept);
      open_page = omega (arith, all, open_page);
      blank = omega (arith, all, mine);
    }
