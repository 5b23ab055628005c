-- How many bytes are used of the pages that were stored.
use Rattle.std.proofs.Common.{◌≡◌, inl, inr, ℕ, ◌+◌, ◌-◌, ◌<◌, ◌≤◌, List, [], ◌∷◌, ◌++◌, length, map, replicate, Result, Ok, Err, OnOk, Option, Some, None, refl, sym, ap, ◌∙◌, subst, arith, append_assoc, append-nil, length-drop}
use Rattle.std.proofs.lemmas.Bool.{cases_lt}
use Rattle.std.proofs.lemmas.List.{length-take-le, map-append, replicate-append-replicate}
use Rattle.segment_core.specs.Segments.{SegmentView}
use Rattle.segment_core.proofs.Weighing.{fits_first}
use Rattle.flow_outside.specs.Blocks.{Blocks, BothTold}
use Rattle.paged_view.specs.Pages.{body, used_bytes, used, IsSameSegment}
use Rattle.spool.specs.Headers.{as_page}
use Rattle.spool.specs.Spilling.{IsLonger, spilled}
use Rattle.page_feed.specs.Reach.{sizes_of}
use Rattle.lot_store.specs.Stores.{PagesView, stored_sizes}
use Rattle.lot_store.specs.Keeping.{AddsFullPages, AddsPages, Keeps, KeepsSizes, MovesSegments, PutsPage}
use Rattle.spool.proofs.SpillLemmas.{told_both, told_join, told_with}
use Rattle.lot_store.proofs.LotLemmas.{keeps_same, nothing, on_ok_map}

-- the same for a spilled page
abbrev size_of_spilled : List ℕ → ℕ
size_of_spilled page = length (used_bytes (as_page page))

abbrev size_of_page : SegmentView → ℕ
size_of_page page = length (used_bytes page)

-- The stored pages are what they were.
pub sizes_same : (m : Blocks) (a b : PagesView) → b.kept ≡ a.kept → b.run ≡ a.run → stored_sizes m b ≡ stored_sizes m a
sizes_same m a b kept run =
    ap (λ ps. sizes_of ps ++ map size_of_spilled (spilled m b.run)) kept ∙ ap (λ r. sizes_of a.kept ++ map size_of_spilled (spilled m r)) run

pub pages_none : (t : Option Blocks) (a b : PagesView) → b.kept ≡ a.kept → b.run ≡ a.run → BothTold t t (AddsPages a b [])
pages_none None a b kept run = tt
pages_none (Some m) a b kept run = sizes_same m a b kept run ∙ sym (append-nil (stored_sizes m a))

-- A page was kept.
pages_kept_at : (m : Blocks) (a b : PagesView) (page : SegmentView) → a.run ≡ None → b.run ≡ None → b.kept ≡ a.kept ++ page ∷ [] → AddsPages a b (length (used_bytes page) ∷ []) m m
pages_kept_at m a b page none none_yet more =
    let front : stored_sizes m a ≡ sizes_of a.kept = ap (λ r. sizes_of a.kept ++ map size_of_spilled (spilled m r)) none ∙ append-nil (sizes_of a.kept) in
    ap (λ r. sizes_of b.kept ++ map size_of_spilled (spilled m r)) none_yet
    ∙ append-nil (sizes_of b.kept)
    ∙ ap sizes_of more
    ∙ map-append size_of_page a.kept (page ∷ [])
    ∙ ap (λ xs. xs ++ length (used_bytes page) ∷ []) (sym front)

pub pages_kept : (t : Option Blocks) (a b : PagesView) (page : SegmentView) → a.run ≡ None → b.run ≡ None → b.kept ≡ a.kept ++ page ∷ [] → BothTold t t (AddsPages a b (length (used_bytes page) ∷ []))
pages_kept None a b page none none_yet more = tt
pages_kept (Some m) a b page none none_yet more = pages_kept_at m a b page none none_yet more

-- A page was spilled.
pages_spilled_at : (size : ℕ) (a b : PagesView) (old page : SegmentView) (m n : Blocks) → b.kept ≡ a.kept → used_bytes page ≡ used_bytes old → IsLonger size a.run b.run page.bytes m n
    → AddsPages a b (length (used_bytes old) ∷ []) m n
pages_spilled_at size a b old page m n kept same change =
    ap (λ ps. sizes_of ps ++ map size_of_spilled (spilled n b.run)) kept
    ∙ ap (λ ps. sizes_of a.kept ++ map size_of_spilled ps) change.pages
    ∙ ap (λ xs. sizes_of a.kept ++ xs) (map-append size_of_spilled (spilled m a.run) (page.bytes ∷ []))
    ∙ sym (append_assoc (sizes_of a.kept) (map size_of_spilled (spilled m a.run)) (length (used_bytes page) ∷ []))
    ∙ ap (λ (xs : List ℕ). stored_sizes m a ++ length xs ∷ []) same

pub pages_spilled : (t u : Option Blocks) (size : ℕ) (a b : PagesView) (old page : SegmentView) → b.kept ≡ a.kept → used_bytes page ≡ used_bytes old
    → BothTold t u (IsLonger size a.run b.run page.bytes) → BothTold t u (AddsPages a b (length (used_bytes old) ∷ []))
pages_spilled t u size a b old page kept same change =
    told_with t u (λ m. Unit {0}) (IsLonger size a.run b.run page.bytes) (AddsPages a b (length (used_bytes old) ∷ []))
    (λ m n _ c. pages_spilled_at size a b old page m n kept same c)
    (nothing t) change

-- Pages that were stored behind others, whose lot then went on with other pages under way.
pages_then_at : (m n : Blocks) (a b c : PagesView) (sizes : List ℕ) → c.kept ≡ b.kept → c.run ≡ b.run → AddsPages a b sizes m n → AddsPages a c sizes m n
pages_then_at m n a b c sizes kept run added = sizes_same n b c kept run ∙ added

pub pages_then : (t u : Option Blocks) (a b c : PagesView) (sizes : List ℕ) → c.kept ≡ b.kept → c.run ≡ b.run → BothTold t u (AddsPages a b sizes) → BothTold t u (AddsPages a c sizes)
pages_then t u a b c sizes kept run added =
    told_with t u (λ m. Unit {0}) (AddsPages a b sizes) (AddsPages a c sizes) (λ m n _ h. pages_then_at m n a b c sizes kept run h) (nothing t) added

-- The same where the open page was taken out before.
pages_after_at : (m n : Blocks) (a b c : PagesView) (sizes : List ℕ) → b.kept ≡ a.kept → b.run ≡ a.run → AddsPages b c sizes m n → AddsPages a c sizes m n
pages_after_at m n a b c sizes kept run added = added ∙ ap (λ xs. xs ++ sizes) (sizes_same m a b kept run)

pages_after_told : (t u : Option Blocks) (a b c : PagesView) (sizes : List ℕ) → b.kept ≡ a.kept → b.run ≡ a.run → BothTold t u (AddsPages b c sizes) → BothTold t u (AddsPages a c sizes)
pages_after_told t u a b c sizes kept run added =
    told_with t u (λ m. Unit {0}) (AddsPages b c sizes) (AddsPages a c sizes) (λ m n _ h. pages_after_at m n a b c sizes kept run h) (nothing t) added

-- The open page was taken out and stored.
pub pages_after : {E : Type 0} (answer : Result Unit E) (t u : Option Blocks) (a b c : PagesView) (page : SegmentView) → a.open_page ≡ page ∷ [] → b.kept ≡ a.kept → b.run ≡ a.run
    → OnOk answer (BothTold t u (AddsPages b c (length (used_bytes page) ∷ []))) → OnOk answer (BothTold t u (AddsPages a c (sizes_of a.open_page)))
pages_after answer t u a b c page was kept run added =
    on_ok_map answer _ _ (λ h. subst (λ ps. BothTold t u (AddsPages a c (sizes_of ps))) (sym was) (pages_after_told t u a b c (length (used_bytes page) ∷ []) kept run h)) added

-- There was no open page.
pub pages_first : (t : Option Blocks) (a b : PagesView) → a.open_page ≡ [] → b.kept ≡ a.kept → b.run ≡ a.run → BothTold t t (AddsPages a b (sizes_of a.open_page))
pages_first t a b was kept run = subst (λ ps. BothTold t t (AddsPages a b (sizes_of ps))) (sym was) (pages_none t a b kept run)

-- A page that has no room for another byte has as many used bytes as a segment has behind its header.
pub full_part : (size : ℕ) (page : SegmentView) → length page.bytes ≡ size → used page ≤ length (body page) → (used page < length (body page) → ⊥) → length (used_bytes page) ≡ size - 16
full_part size page long within none =
    let all : length (body page) ≤ used page = elim (cases_lt (used page) (length (body page))) [ inl below ↦ absurd (none below) | inr past ↦ past ] in
    length-take-le (used page) (body page) within
    ∙ omega (arith, all, within)
    ∙ length-drop 16 page.bytes
    ∙ ap (λ n. n - 16) long

-- Nothing was stored.
pub full_none : (t : Option Blocks) (a b : PagesView) (purse : List SegmentView) → b.kept ≡ a.kept → b.run ≡ a.run → BothTold t t (AddsFullPages a b purse)
full_none None a b purse kept run = tt
full_none (Some m) a b purse kept run = λ size s. (0, sizes_same m a b kept run ∙ sym (append-nil (stored_sizes m a)))

-- A full page was stored.
full_one_at : (m n : Blocks) (a b : PagesView) (page : SegmentView) (purse : List SegmentView) → used page ≤ length (body page) → (used page < length (body page) → ⊥)
    → AddsPages a b (length (used_bytes page) ∷ []) m n → AddsFullPages a b (page ∷ purse) m n
full_one_at m n a b page purse within none added size s =
    (1, added ∙ ap (λ k. stored_sizes m a ++ k ∷ []) (full_part size page (fits_first size page purse s.others) within none))

pub full_one : (t u : Option Blocks) (a b : PagesView) (page : SegmentView) (purse : List SegmentView) → used page ≤ length (body page) → (used page < length (body page) → ⊥)
    → BothTold t u (AddsPages a b (length (used_bytes page) ∷ [])) → BothTold t u (AddsFullPages a b (page ∷ purse))
full_one t u a b page purse within none added =
    told_with t u (λ m. Unit {0}) (AddsPages a b (length (used_bytes page) ∷ [])) (AddsFullPages a b (page ∷ purse))
    (λ m n _ h. full_one_at m n a b page purse within none h) (nothing t) added

-- Full pages that were stored in two steps.
full_join_at : (k m n : Blocks) (a b c : PagesView) (p q : List SegmentView) → AddsFullPages a b p k m → Keeps a b p q k m → AddsFullPages b c q m n → AddsFullPages a c p k n
full_join_at k m n a b c p q first keeps next size s =
    let one = first size s in
    let two = next size (keeps.stands size s) in (
      one.0 + two.0,
      two.1
          ∙ ap (λ xs. xs ++ replicate two.0 (size - 16)) one.1
          ∙ append_assoc (stored_sizes k a) (replicate one.0 (size - 16)) (replicate two.0 (size - 16))
          ∙ ap (λ xs. stored_sizes k a ++ xs) (replicate-append-replicate one.0 two.0 (size - 16)),
    )

pub full_join : (t u v : Option Blocks) (a b c : PagesView) (p q : List SegmentView) → BothTold t u (AddsFullPages a b p) → BothTold t u (Keeps a b p q) → BothTold u v (AddsFullPages b c q) → BothTold t v (AddsFullPages a c p)
full_join t u v a b c p q first keeps next =
    told_join t u v (λ k m. AddsFullPages a b p k m × Keeps a b p q k m) (AddsFullPages b c q) (AddsFullPages a c p)
    (λ k m n one two. full_join_at k m n a b c p q one.0 one.1 two)
    (told_both t u _ _ first keeps) next

pub full_then : {E : Type 0} (answer : Result Unit E) (t u v : Option Blocks) (a b c : PagesView) (p q : List SegmentView) → BothTold t u (AddsFullPages a b p) → BothTold t u (Keeps a b p q) → OnOk answer (BothTold u v (AddsFullPages b c q)) → OnOk answer (BothTold t v (AddsFullPages a c p))
full_then answer t u v a b c p q first keeps next =
    on_ok_map answer _ _ (λ two. full_join t u v a b c p q first keeps two) next

-- What was stored behind the lot without its open page was stored behind the lot.
full_taken_at : (m n : Blocks) (a b c : PagesView) (p q : List SegmentView) → MovesSegments a b p q → b.kept ≡ a.kept → b.run ≡ a.run → AddsFullPages b c q m n → AddsFullPages a c p m n
full_taken_at m n a b c p q moves kept run next size s =
    let two = next size ((keeps_same m a b p q moves run).stands size s) in
    (two.0, two.1 ∙ ap (λ xs. xs ++ replicate two.0 (size - 16)) (sizes_same m a b kept run))

full_taken_told : (t u : Option Blocks) (a b c : PagesView) (p q : List SegmentView) → MovesSegments a b p q → b.kept ≡ a.kept → b.run ≡ a.run → BothTold t u (AddsFullPages b c q) → BothTold t u (AddsFullPages a c p)
full_taken_told t u a b c p q moves kept run next =
    told_with t u (λ m. Unit {0}) (AddsFullPages b c q) (AddsFullPages a c p)
    (λ m n _ h. full_taken_at m n a b c p q moves kept run h) (nothing t) next

pub full_taken : {T E : Type 0} (answer : Result T E) (t u : Option Blocks) (a b c : PagesView) (p q : List SegmentView) → MovesSegments a b p q → b.kept ≡ a.kept → b.run ≡ a.run → OnOk answer (BothTold t u (AddsFullPages b c q)) → OnOk answer (BothTold t u (AddsFullPages a c p))
full_taken answer t u a b c p q moves kept run next =
    on_ok_map answer _ _ (full_taken_told t u a b c p q moves kept run) next

-- What was stored before the lot went on with another open page.
full_filled_at : (m n : Blocks) (a b c : PagesView) (p : List SegmentView) → c.kept ≡ b.kept → c.run ≡ b.run → AddsFullPages a b p m n → AddsFullPages a c p m n
full_filled_at m n a b c p kept run first size s =
    let one = first size s in
    (one.0, sizes_same n b c kept run ∙ one.1)

pub full_filled : (t u : Option Blocks) (a b c : PagesView) (p : List SegmentView) → c.kept ≡ b.kept → c.run ≡ b.run → BothTold t u (AddsFullPages a b p) → BothTold t u (AddsFullPages a c p)
full_filled t u a b c p kept run first =
    told_with t u (λ m. Unit {0}) (AddsFullPages a b p) (AddsFullPages a c p)
    (λ m n _ h. full_filled_at m n a b c p kept run h) (nothing t) first

-- The open page was stored.
sizes_rested_at : (m n : Blocks) (a b c : PagesView) (page : SegmentView) → a.open_page ≡ page ∷ [] → b.kept ≡ a.kept → b.run ≡ a.run → c.open_page ≡ [] → AddsPages b c (length (used_bytes page) ∷ []) m n → KeepsSizes a c m n
sizes_rested_at m n a b c page was kept run none added =
    ap (λ ps. stored_sizes n c ++ sizes_of ps) none
    ∙ append-nil (stored_sizes n c)
    ∙ added
    ∙ ap (λ xs. xs ++ length (used_bytes page) ∷ []) (sizes_same m a b kept run)
    ∙ ap (λ ps. stored_sizes m a ++ sizes_of ps) (sym was)

sizes_rested_told : (t u : Option Blocks) (a b c : PagesView) (page : SegmentView) → a.open_page ≡ page ∷ [] → b.kept ≡ a.kept → b.run ≡ a.run → c.open_page ≡ [] → BothTold t u (AddsPages b c (length (used_bytes page) ∷ [])) → BothTold t u (KeepsSizes a c)
sizes_rested_told t u a b c page was kept run none added =
    told_with t u (λ m. Unit {0}) (AddsPages b c (length (used_bytes page) ∷ [])) (KeepsSizes a c)
    (λ m n _ h. sizes_rested_at m n a b c page was kept run none h) (nothing t) added

pub sizes_rested : {E : Type 0} (answer : Result Unit E) (t u : Option Blocks) (a b c : PagesView) (page : SegmentView) → a.open_page ≡ page ∷ [] → b.kept ≡ a.kept → b.run ≡ a.run → c.open_page ≡ []
    → OnOk answer (BothTold t u (AddsPages b c (length (used_bytes page) ∷ []))) → OnOk answer (BothTold t u (KeepsSizes a c))
sizes_rested answer t u a b c page was kept run none added =
    on_ok_map answer _ _ (sizes_rested_told t u a b c page was kept run none) added

pub sizes_kept : (t : Option Blocks) (a : PagesView) → BothTold t t (KeepsSizes a a)
sizes_kept None a = tt
sizes_kept (Some m) a = refl

-- A page of which no byte is used was added.
pub puts_nothing : (t : Option Blocks) (a : PagesView) (page : SegmentView) (count : ℕ) → count ≡ length (used_bytes page) → count ≡ 0 → BothTold t t (PutsPage page a a)
puts_nothing None a page count is none = tt
puts_nothing (Some m) a page count is none = record {
  stored = λ some. absurd (omega (arith, some, is, none));
  open_page = λ some. absurd (omega (arith, some, is, none));
  unused = λ _. (refl, sym (append-nil (stored_sizes m a)));
}

-- A page became the one under way.
puts_page_at : (m n : Blocks) (a b : PagesView) (page trimmed : SegmentView) → IsSameSegment page trimmed → used_bytes trimmed ≡ used_bytes page → 0 < length (used_bytes page) → b.open_page ≡ trimmed ∷ []
    → AddsPages a b (sizes_of a.open_page) m n → PutsPage page a b m n
puts_page_at m n a b page trimmed same text some is added = record {
  stored = λ _. added;
  open_page = λ _. record { now = trimmed; is = is; same = same; text = text };
  unused = λ none. absurd (omega (arith, some, none));
}

pub puts_page : {E : Type 0} (answer : Result Unit E) (t u : Option Blocks) (a b : PagesView) (page trimmed : SegmentView) → IsSameSegment page trimmed → used_bytes trimmed ≡ used_bytes page → 0 < length (used_bytes page)
    → OnOk answer (b.open_page ≡ trimmed ∷ []) → OnOk answer (BothTold t u (AddsPages a b (sizes_of a.open_page))) → OnOk answer (BothTold t u (PutsPage page a b))
puts_page (Ok done) t u a b page trimmed same text some is added =
    told_with t u (λ m. Unit {0}) (AddsPages a b (sizes_of a.open_page)) (PutsPage page a b)
    (λ m n _ h. puts_page_at m n a b page trimmed same text some is h) (nothing t) added
puts_page (Err fault) t u a b page trimmed same text some is added = tt
