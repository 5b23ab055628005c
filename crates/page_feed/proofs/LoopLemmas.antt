-- Lemmas on one turn of an advance: no whole record stood in the reader, pages were put away, and a page was asked for.
use Rattle.std.proofs.Common.{◌≡◌, ℕ, ◌<◌, ◌≤◌, ◌⊎◌, Bool, true, false, List, [], length, Option, None, Result, Ok, Err, IfOk, IsOk, IsErrOf, MatchResult, is_some, refl, sym, ap, ◌∙◌, subst, arith}
use Rattle.segment_core.specs.Segments.{count_other_size}
use Rattle.flow_outside.specs.Blocks.{Blocks}
use Rattle.flow_outside.specs.Causes.{HasStreamCause, Rose}
use Rattle.flow_outside.specs.Told.{IfTold}
use Rattle.flow_outside.specs.declared.failure.StreamFault.{StreamFault}
use Rattle.flow_outside.specs.declared.failure.StreamFault.TheVariants.{Spill, Damaged}
use Rattle.paged_view.specs.Reading.{HasRecord}
use Rattle.paged_view.specs.Streams.{Advances}
use Rattle.page_feed.specs.Feeds.{FeedView, HasBlockLeft, HasLeft, IsLeftReadable, lent, most_left, pages_to_read}
use Rattle.page_feed.specs.Feeding.{GoesOn, IsFed, IsGivenOut, IsKnown, IsPutAway, IsStuck, KeepsPages, PutsAway, pages_to_give}
use Rattle.page_feed.proofs.EndLemmas.{ends, not_told}
use Rattle.page_feed.proofs.LeftLemmas.{goes_away, goes_join, known_on, left_on, told_all}

-- The same feed, with no record shown.
goes_hidden_at : (t : Option Blocks) (a : FeedView) → GoesOn t a (record a { shown = None })
goes_hidden_at t a = record {
  room = refl;
  reach = refl;
  kept = refl;
  open_page = refl;
  weights = λ h. refl;
  less = omega arith;
  rows = told_all t (λ m. (rows : List (List ℕ)) → HasLeft m a rows → HasLeft m (record a { shown = None }) rows) (λ m rows left. left_on m a (record a { shown = None }) rows (λ h. refl) (λ size fit run. run) refl refl refl left);
  among = told_all t (λ m. (block : ℕ) → HasBlockLeft m a.run block → HasBlockLeft m a.run block) (λ m block has. has);
  readable = told_all t (λ m. (size : ℕ) → count_other_size size (lent a) ≡ 0 → IsLeftReadable m size a.run → IsLeftReadable m size a.run) (λ m size fit run. run);
}

pub goes_hidden : (t : Option Blocks) (a b : FeedView) → b ≡ record a { shown = None } → GoesOn t a b
goes_hidden t a b is = subst (GoesOn t a) (sym is) (goes_hidden_at t a)

-- Up to the page that is asked for.
pub goes_before : (t : Option Blocks) (a b c d : FeedView) → GoesOn t a b → c ≡ record b { shown = None } → PutsAway c d → GoesOn t a d
goes_before t a b c d goes hidden away =
    goes_join t a c d (goes_join t a b c goes (goes_hidden t b c hidden)) (goes_away t c d away)

-- As many pages are left to be given.
pub same_to_give : (b c d : FeedView) → c ≡ record b { shown = None } → PutsAway c d → pages_to_give d ≡ pages_to_give b
same_to_give b c d hidden away =
    omega (arith, ap (λ ps. length ps) away.ahead, ap pages_to_read away.run, ap (λ ps. length ps) away.under_way, ap pages_to_give hidden)

pub known_before : (t u : Option Blocks) (a d : FeedView) → u ≡ t → GoesOn t a d → IsKnown t a → IsKnown u d
known_before t u a d same goes known =
    subst (λ o. IsKnown o d) (sym same) (known_on t a d goes known)

-- With the page that was given.
pub goes_after : (t u : Option Blocks) (a d e : FeedView) → u ≡ t → GoesOn t a d → GoesOn u d e → GoesOn t a e
goes_after t u a d e same first next =
    goes_join t a d e first (subst (λ o. GoesOn o d e) same next)

-- No page could be given.
pub stuck_is : (b c d e : FeedView) → (HasRecord b.reader.text → ⊥) → c ≡ record b { shown = None } → PutsAway c d → IsPutAway d → IsFed d → IsGivenOut d ⊎ (length d.reader.pages ≡ d.reach) → e ≡ d → IsStuck e
stuck_is b c d e used_bytes hidden away put_away fed refused same =
    subst IsStuck (sym same) (record {
      used_bytes = λ has. used_bytes (subst HasRecord (away.text ∙ ap (λ (v : FeedView). v.reader.text) hidden) has);
      put_away = put_away;
      refused = refused;
      fed = fed;
    })

-- What the answer says there.
pub rows_end : (t : Option Blocks) (a e : FeedView) (answer : Result Bool StreamFault) → GoesOn t a e → IsStuck e → e.shown ≡ None → IfOk answer (λ more. more ≡ false)
    → IfOk answer (λ more. IfTold t (λ m. (rows : List (List ℕ)) → HasLeft m a rows → Advances rows more e.shown (HasLeft m e)))
rows_end t a e (Ok more) goes stuck none is =
    subst (λ b. IfTold t (λ m. (rows : List (List ℕ)) → HasLeft m a rows → Advances rows b e.shown (HasLeft m e))) (sym is) (ends t a e goes stuck none)
rows_end t a e (Err fault) goes stuck none is = tt

pub shows_end : (e : FeedView) (answer : Result Bool StreamFault) → e.shown ≡ None → IfOk answer (λ more. more ≡ false) → MatchResult answer (λ more. is_some e.shown ≡ more) (λ _. e.shown ≡ None)
shows_end e (Ok more) none is = ap is_some none ∙ sym is
shows_end e (Err fault) none is = none

pub falls_end : (a e : FeedView) (answer : Result Bool StreamFault) → IfOk answer (λ more. more ≡ false) → answer ≡ Ok true → most_left e < most_left a
falls_end a e (Ok true) is more = absurd cc
falls_end a e (Ok false) is more = absurd cc
falls_end a e (Err fault) is more = absurd cc

pub cause_end : (t : Option Blocks) (before now : ℕ) (e : FeedView) (answer : Result Bool StreamFault) → before ≤ now → IsKnown t e → IsStuck e → (e.reader.text ≡ [] → IsOk answer) → (IsErrOf answer Spill → ⊥) → HasStreamCause before now t answer
cause_end t before now e answer later known stuck end read = record {
  later = later;
  spill = λ is. absurd (read is);
  damaged = λ block is. not_told t e known stuck (λ none. not_both answer block (end none) is);
}
  where
    not_both : (r : Result Bool StreamFault) (block : ℕ) → IsOk r → IsErrOf r (Damaged block) → ⊥
    not_both (Ok more) block ok is = absurd cc
    not_both (Err fault) block ok is = absurd cc

-- A call that goes on after others.
pub cause_on : {T : Type 0} (t u : Option Blocks) (a b c : ℕ) (answer : Result T StreamFault) → u ≡ t → a ≤ b → HasStreamCause b c u answer → HasStreamCause a c t answer
cause_on t u a b c answer same later cause = record {
  later = omega (arith, later, cause.later);
  spill = λ is. let rose : Rose b c = cause.spill is in omega (arith, later, rose);
  damaged = λ block is. sym same ∙ cause.damaged block is;
}

-- No whole record stands in the reader.
pub no_record : (found : Bool) (text : List ℕ) → (HasRecord text → found ≡ true) → found ≡ false → HasRecord text → ⊥
no_record found text tells lacks has = let yes = tells has in absurd cc

-- At the end no record is shown.
pub none_shown : {E : Type 0} (answer : Result Bool E) (shown : Option (List ℕ)) → shown ≡ None → IfOk answer (λ more. more ≡ false) → MatchResult answer (λ more. is_some shown ≡ more) (λ _. shown ≡ None)
none_shown (Ok more) shown none end = ap is_some none ∙ sym end
none_shown (Err fault) shown none end = none

-- What the steps keep, an advance keeps.
pub keeps_pages : (t : Option Blocks) (a b : FeedView) → GoesOn t a b → KeepsPages t a b
keeps_pages t a b goes = record {
  room = goes.room;
  reach = goes.reach;
  kept = goes.kept;
  open_page = goes.open_page;
  weights = goes.weights;
  among = goes.among;
  readable = goes.readable;
}
