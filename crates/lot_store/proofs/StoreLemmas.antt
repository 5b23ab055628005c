-- What is always true of a lot's pages, when pages come back from a feed.
use Rattle.std.proofs.Common.{◌≡◌, inl, inr, ℕ, ◌+◌, ◌<◌, ◌≤◌, All, List, [], ◌∷◌, ◌++◌, length, sym, subst, arith, length-append, Option}
use Rattle.std.proofs.lemmas.Bool.{cases_lt}
use Rattle.std.proofs.lemmas.List.Elements.{All-append}
use Rattle.segment_core.specs.Segments.{SegmentView}
use Rattle.paged_view.specs.Pages.{body, page_at, used_bytes, used}
use Rattle.spool.specs.declared.writer.RunWriter.{RunWriter}
use Rattle.lot_store.specs.Stores.{IsStore}

-- Some bytes of the open page are used, and no more than it has.
record IsLast (open_page : List SegmentView) : Type 0 where
  pub some : 0 < length open_page → 0 < used (page_at open_page 0)
  pub within : used (page_at open_page 0) ≤ length (body (page_at open_page 0))

-- The open page is the feed's where there is one, and else the one that was there.
last_back : (open_page ls : List SegmentView) → (0 < length ls → length open_page ≡ 0) → IsLast open_page → IsLast ls → IsLast (open_page ++ ls)
last_back [] ls whole was back = back
last_back (p ∷ ps) [] whole was back = record { some = λ _. was.some (omega arith); within = was.within }
last_back (p ∷ ps) (q ∷ qs) whole was back = absurd (omega (arith, whole (omega arith)))

pub store_taken : (kept ks all open_page ls one : List SegmentView) (len len_now capacity capacity_now room count count_now space space_now : ℕ) (run : Option RunWriter) → IsStore kept open_page len capacity room run count space
    → length kept ≡ len → length open_page ≡ count → (0 < length ks + length ls → length kept + length open_page ≡ 0)
    → length ks ≤ room → All (λ page. 0 < length (used_bytes page)) ks → length ls ≤ 1 → (0 < length ls → 0 < used (page_at ls 0)) → used (page_at ls 0) ≤ length (body (page_at ls 0))
    → all ≡ kept ++ ks → len_now ≡ len + length ks → capacity_now ≡ capacity → one ≡ open_page ++ ls → count_now ≡ count + length ls → space_now ≡ space
    → IsStore all one len_now capacity_now room run count_now space_now
store_taken kept ks all open_page ls one len len_now capacity capacity_now room count count_now space space_now run store long short whole fits filled single some within is is_len is_capacity is_one is_count is_space =
    let none_kept : 0 < length ks → length kept ≡ 0 = λ more. omega (arith, whole (omega (arith, more))) in
    let none_last : 0 < length ls → length open_page ≡ 0 = λ more. omega (arith, whole (omega (arith, more))) in
    let back : IsLast (open_page ++ ls) = last_back open_page ls none_last
    (record { some = λ more. store.some (omega (arith, more, short)); within = store.within })
    (record { some = some; within = within }) in
    record {
      filled = subst (All (λ page. 0 < length (used_bytes page))) (sym is) (All-append (λ page. 0 < length (used_bytes page)) kept ks store.filled filled);
      fits = elim (cases_lt 0 (length ks)) [
        | inl more ↦ omega (arith, is_len, none_kept more, long, fits)
        | inr none ↦ omega (arith, is_len, none, store.fits)
      ];
      reserved = omega (arith, is_capacity, store.reserved);
      one = elim (cases_lt 0 (length ls)) [
        | inl more ↦ omega (arith, is_count, none_last more, short, single)
        | inr none ↦ omega (arith, is_count, none, store.one)
      ];
      place = omega (arith, is_space, store.place);
      some = λ more. subst (λ ps. 0 < used (page_at ps 0)) (sym is_one) (back.some (omega (arith, more, is_count, short, length-append open_page ls)));
      within = subst (λ ps. used (page_at ps 0) ≤ length (body (page_at ps 0))) (sym is_one) back.within;
      begun = store.begun;
    }
