-- What a step of a lot keeps and adds.
use Rattle.std.proofs.Common.{Result, Ok, Err, OnOk, OnErr, ◌≡◌, ℕ, ◌+◌, ◌==◌, cond, not, List, [], ◌∷◌, ◌++◌, length, Option, Some, None, refl, sym, ap, ◌∙◌, subst, arith, append_assoc, append-nil}
use Rattle.std.proofs.lemmas.Bool.Decides.{nat_tests}
use Rattle.std.proofs.lemmas.Grind.{flat_map-append}
use Rattle.segment_core.specs.Segments.{SegmentView, count_other_size, segment_sum}
use Rattle.segment_core.proofs.Weighing.{fits_first, segment_sum-append, segment_sum-cons, segment_sum-push}
use Rattle.flow_outside.specs.Blocks.{Blocks, BothTold}
use Rattle.flow_outside.specs.Told.{IfTold}
use Rattle.paged_view.specs.Pages.{used_bytes, all_used_bytes, IsSameSegment}
use Rattle.spool.specs.Headers.{as_page}
use Rattle.spool.specs.Runs.{joined}
use Rattle.spool.specs.Spilling.{IsFreeOrOwn, IsLonger, IsUnchanged, IsSpilled, OwnsBlock, spilled}
use Rattle.lot_store.specs.Stores.{PagesView, IsSound, held, text}
use Rattle.lot_store.specs.Keeping.{Keeps, MovesSegments, AddsText}
use Rattle.spool.proofs.SpillLemmas.{told_with}

-- Nothing is true of whatever is told.
pub nothing : (t : Option Blocks) → IfTold t (λ m. Unit {0})
nothing None = tt
nothing (Some m) = tt

-- Segments that moved have the size that they had.
pub moved_fit : (size : ℕ) (before after : PagesView) (purse rest : List SegmentView) → MovesSegments before after purse rest
    → count_other_size size (held before) ≡ 0 → count_other_size size purse ≡ 0
    → (count_other_size size (held after) ≡ 0) × (count_other_size size rest ≡ 0)
moved_fit size before after purse rest moves fits purse_fits =
    let e : count_other_size size rest + count_other_size size (held after) ≡ count_other_size size purse + count_other_size size (held before) = moves (λ _ n. cond (not (n == size)) 1 0) in
    (omega (arith, e, fits, purse_fits), omega (arith, e, fits, purse_fits))

-- Nothing was written: the lot has the same run.
pub keeps_same : (m : Blocks) (before after : PagesView) (purse rest : List SegmentView) → MovesSegments before after purse rest → after.run ≡ before.run → Keeps before after purse rest m m
keeps_same m before after purse rest moves same = record {
  stands = λ size s. let fit = moved_fit size before after purse rest moves s.own s.others in record {
    own = fit.0;
    others = fit.1;
    spilled = subst (IsSpilled m size) (sym same) s.spilled;
  };
  others = λ k live other. (refl, λ h. other (subst (λ r. OwnsBlock m r k) same h));
  owns = λ k state. subst (λ r. IsFreeOrOwn m r k) (sym same) state;
}

pub keeps_same_told : (t : Option Blocks) (before after : PagesView) (purse rest : List SegmentView) → MovesSegments before after purse rest → after.run ≡ before.run → BothTold t t (Keeps before after purse rest)
keeps_same_told None before after purse rest moves same = tt
keeps_same_told (Some m) before after purse rest moves same = keeps_same m before after purse rest moves same

-- A lot that is kept sound stays so.
pub sound_on : (t u : Option Blocks) (before after : PagesView) (purse rest : List SegmentView) → IsSound t before purse → BothTold t u (Keeps before after purse rest) → IsSound u after rest
sound_on None None before after purse rest sound keeps = tt
sound_on None (Some n) before after purse rest sound keeps = absurd keeps
sound_on (Some m) None before after purse rest sound keeps = tt
sound_on (Some m) (Some n) before after purse rest (size, stands) keeps = (size, keeps.stands size stands)

-- The run of a lot that is sound stands, at the size of each of its segments.
pub spilled_fits : (t : Option Blocks) (lot : PagesView) (page : SegmentView) (purse : List SegmentView) → IsSound t lot (page ∷ purse) → IfTold t (λ m. IsSpilled m (length page.bytes) lot.run)
spilled_fits None lot page purse sound = tt
spilled_fits (Some m) lot page purse (size, stands) =
    subst (λ n. IsSpilled m n lot.run) (sym (fits_first size page purse stands.others)) stands.spilled

-- What spilling a page keeps.
pub keeps_longer : (t u : Option Blocks) (before after : PagesView) (page : SegmentView) (bytes : List ℕ) (purse rest : List SegmentView) → MovesSegments before after (page ∷ purse) rest
    → BothTold t u (IsLonger (length page.bytes) before.run after.run bytes) → BothTold t u (Keeps before after (page ∷ purse) rest)
keeps_longer t u before after page bytes purse rest moves change =
    told_with t u (λ m. Unit {0}) (IsLonger (length page.bytes) before.run after.run bytes) (Keeps before after (page ∷ purse) rest)
    (λ m n a c. record {
      stands = λ size s. let fit = moved_fit size before after (page ∷ purse) rest moves s.own s.others in record {
        own = fit.0;
        others = fit.1;
        spilled = subst (λ k. IsSpilled n k after.run) (fits_first size page purse s.others) c.stands;
      };
      others = c.others;
      owns = c.owns;
    })
    (nothing t) change

pub keeps_unchanged : (t u : Option Blocks) (before after : PagesView) (page : SegmentView) (purse rest : List SegmentView) → MovesSegments before after (page ∷ purse) rest
    → BothTold t u (IsUnchanged (length page.bytes) before.run after.run) → BothTold t u (Keeps before after (page ∷ purse) rest)
keeps_unchanged t u before after page purse rest moves change =
    told_with t u (λ m. Unit {0}) (IsUnchanged (length page.bytes) before.run after.run) (Keeps before after (page ∷ purse) rest)
    (λ m n a c. record {
      stands = λ size s. let fit = moved_fit size before after (page ∷ purse) rest moves s.own s.others in record {
        own = fit.0;
        others = fit.1;
        spilled = subst (λ k. IsSpilled n k after.run) (fits_first size page purse s.others) c.stands;
      };
      others = c.others;
      owns = c.owns;
    })
    (nothing t) change

-- A page that was kept adds its used bytes.
text_kept : (m : Blocks) (before after : PagesView) (page : SegmentView) → before.run ≡ None → before.open_page ≡ [] → after.kept ≡ before.kept ++ page ∷ [] → after.run ≡ None → after.open_page ≡ [] → text m after ≡ text m before ++ used_bytes page
text_kept m before after page no_run no_last more no_run_yet no_last_yet =
    let a : text m after ≡ all_used_bytes (before.kept ++ page ∷ []) = ap (λ ps. all_used_bytes ps ++ (joined (spilled m after.run) ++ all_used_bytes after.open_page)) more ∙ ap (λ r. all_used_bytes (before.kept ++ page ∷ []) ++ (joined (spilled m r) ++ all_used_bytes after.open_page)) no_run_yet ∙ ap (λ ps. all_used_bytes (before.kept ++ page ∷ []) ++ all_used_bytes ps) no_last_yet ∙ append-nil (all_used_bytes (before.kept ++ page ∷ [])) in
    let b : text m before ≡ all_used_bytes before.kept = ap (λ r. all_used_bytes before.kept ++ (joined (spilled m r) ++ all_used_bytes before.open_page)) no_run ∙ ap (λ ps. all_used_bytes before.kept ++ all_used_bytes ps) no_last ∙ append-nil (all_used_bytes before.kept) in
    a ∙ flat_map-append used_bytes before.kept (page ∷ []) ∙ ap (λ xs. all_used_bytes before.kept ++ xs) (append-nil (used_bytes page)) ∙ ap (λ xs. xs ++ used_bytes page) (sym b)

pub text_kept_told : (t : Option Blocks) (before after : PagesView) (page : SegmentView) → before.run ≡ None → before.open_page ≡ [] → after.kept ≡ before.kept ++ page ∷ [] → after.run ≡ None → after.open_page ≡ [] → BothTold t t (AddsText before after (used_bytes page))
text_kept_told None before after page no_run no_last more no_run_yet no_last_yet = tt
text_kept_told (Some m) before after page no_run no_last more no_run_yet no_last_yet =
    text_kept m before after page no_run no_last more no_run_yet no_last_yet

-- A page that was spilled adds its used bytes.
text_spilled : (size : ℕ) (before after : PagesView) (old page : SegmentView) (m n : Blocks) → before.open_page ≡ [] → after.kept ≡ before.kept → after.open_page ≡ [] → used_bytes page ≡ used_bytes old
    → IsLonger size before.run after.run page.bytes m n → text n after ≡ text m before ++ used_bytes old
text_spilled size before after old page m n no_last kept no_last_yet same change =
    let sp : List ℕ = joined (spilled m before.run) in
    let a : text n after ≡ all_used_bytes before.kept ++ (sp ++ used_bytes page) = ap (λ ps. all_used_bytes ps ++ (joined (spilled n after.run) ++ all_used_bytes after.open_page)) kept ∙ ap (λ ps. all_used_bytes before.kept ++ (joined (spilled n after.run) ++ all_used_bytes ps)) no_last_yet ∙ ap (λ xs. all_used_bytes before.kept ++ xs) (append-nil (joined (spilled n after.run)) ∙ ap joined change.pages ∙ flat_map-append (λ bytes. used_bytes (as_page bytes)) (spilled m before.run) (page.bytes ∷ []) ∙ ap (λ xs. sp ++ xs) (append-nil (used_bytes (as_page page.bytes)))) in
    let b : text m before ≡ all_used_bytes before.kept ++ sp = ap (λ ps. all_used_bytes before.kept ++ (sp ++ all_used_bytes ps)) no_last ∙ ap (λ xs. all_used_bytes before.kept ++ xs) (append-nil sp) in
    a ∙ sym (append_assoc (all_used_bytes before.kept) sp (used_bytes page)) ∙ ap (λ xs. xs ++ used_bytes page) (sym b) ∙ ap (λ xs. text m before ++ xs) same

pub text_spilled_told : (t u : Option Blocks) (size : ℕ) (before after : PagesView) (old page : SegmentView) → before.open_page ≡ [] → after.kept ≡ before.kept → after.open_page ≡ [] → used_bytes page ≡ used_bytes old
    → BothTold t u (IsLonger size before.run after.run page.bytes) → BothTold t u (AddsText before after (used_bytes old))
text_spilled_told t u size before after old page no_last kept no_last_yet same change =
    told_with t u (λ m. Unit {0}) (IsLonger size before.run after.run page.bytes) (AddsText before after (used_bytes old))
    (λ m n a c. text_spilled size before after old page m n no_last kept no_last_yet same c)
    (nothing t) change

-- What spilling a page keeps and adds, by its answer.
pub keeps_either : {E : Type 0} (answer : Result Unit E) (t u : Option Blocks) (before after : PagesView) (page : SegmentView) (bytes : List ℕ) (purse rest : List SegmentView) → MovesSegments before after (page ∷ purse) rest
    → OnOk answer (BothTold t u (IsLonger (length page.bytes) before.run after.run bytes))
    → OnErr answer (BothTold t u (IsUnchanged (length page.bytes) before.run after.run))
    → BothTold t u (Keeps before after (page ∷ purse) rest)
keeps_either (Ok done) t u before after page bytes purse rest moves longer unchanged =
    keeps_longer t u before after page bytes purse rest moves longer
keeps_either (Err fault) t u before after page bytes purse rest moves longer unchanged =
    keeps_unchanged t u before after page purse rest moves unchanged

pub on_ok_map : {T E : Type 0} (answer : Result T E) (P Q : Type 0) → (P → Q) → OnOk answer P → OnOk answer Q
on_ok_map (Ok value) P Q f p = f p
on_ok_map (Err fault) P Q f p = tt

-- A page goes from the hand to the kept ones.
pub moves_kept : (before after : PagesView) (page : SegmentView) (purse : List SegmentView) → after.kept ≡ before.kept ++ page ∷ [] → after.open_page ≡ before.open_page → MovesSegments before after (page ∷ purse) purse
moves_kept before after page purse kept open_page h =
    omega (
      arith,
      ap (λ ps. segment_sum h (ps ++ after.open_page)) kept,
      ap (λ ps. segment_sum h ((before.kept ++ page ∷ []) ++ ps)) open_page,
      segment_sum-append h (before.kept ++ page ∷ []) before.open_page,
      segment_sum-push h before.kept page,
      segment_sum-append h before.kept before.open_page,
      segment_sum-cons h page purse,
    )

-- A page goes from the hand to the purse.
pub moves_out : (before after : PagesView) (page back : SegmentView) (purse rest : List SegmentView) → IsSameSegment page back → after.kept ≡ before.kept → after.open_page ≡ before.open_page → rest ≡ purse ++ back ∷ [] → MovesSegments before after (page ∷ purse) rest
moves_out before after page back purse rest same kept open_page put h =
    let one : h back.id (length back.bytes) ≡ h page.id (length page.bytes) = ap (λ i. h i (length back.bytes)) same.id ∙ ap (h page.id) same.len in
    omega (
      arith,
      one,
      ap (segment_sum h) put,
      segment_sum-push h purse back,
      segment_sum-cons h page purse,
      ap (λ ps. segment_sum h (ps ++ after.open_page)) kept,
      ap (λ ps. segment_sum h (before.kept ++ ps)) open_page,
    )

-- A page of the size is no misfit.
abbrev misfit : ℕ → ℕ → ℕ
misfit size n = cond (not (n == size)) 1 0

no_misfit : (size n : ℕ) → n ≡ size → misfit size n ≡ 0
no_misfit size n is = grind (arith, nat_tests)

pub misfits_more : (size : ℕ) (p : SegmentView) (ps : List SegmentView) → length p.bytes ≡ size → count_other_size size ps ≡ 0 → count_other_size size (p ∷ ps) ≡ 0
misfits_more size p ps long none =
    omega (arith, segment_sum-cons (λ _ n. cond (not (n == size)) 1 0) p ps, no_misfit size (length p.bytes) long, none)
