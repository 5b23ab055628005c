-- What is read of a chain that stands.
use Rattle.std.proofs.Common.{◌≡◌, ◌≢◌, ℕ, zero, suc, ◌+◌, ◌<◌, ◌≤◌, Bool, true, false, List, ◌∷◌, Option, Some, None, Result, Ok, Err, IsErrOf, refl, sym, ap, ◌∙◌, subst, arith, add-one}
use Rattle.flow_outside.specs.Blocks.{Blocks, HoldsPage}
use Rattle.flow_outside.specs.Causes.{HasStreamCause}
use Rattle.flow_outside.specs.Told.{IfTold}
use Rattle.flow_outside.specs.declared.failure.StreamFault.{StreamFault}
use Rattle.flow_outside.specs.declared.failure.StreamFault.TheVariants.{Spill, Damaged}
use Rattle.spool.specs.Headers.{next_of, IsSound}
use Rattle.spool.specs.Runs.{bytes_of, page_in, next_in, pages_at, Stands}
use Rattle.spool.specs.Reading.{number_at, IsReadable, HasRead, IsUnread}
use Rattle.spool.specs.declared.place.RunReader.{RunReader}

-- Where pages are left, the first one stands.
pub first_stands : (m : Blocks) (size number at left : ℕ) → 0 < left → Stands m size number at left → HoldsPage m at size × IsSound number (page_in m at)
first_stands m size number at zero some stands = absurd (omega (arith, some))
first_stands m size number at (suc left) some (first, rest) = (first.holds, first.sound)

pub holds_first : (t : Option Blocks) (size number at left : ℕ) → 0 < left → IfTold t (λ m. Stands m size number at left) → IfTold t (λ m. HoldsPage m at size)
holds_first None size number at left some stands = tt
holds_first (Some m) size number at left some stands = (first_stands m size number at left some stands).0

-- A page that can't be the next one is read only of a disk that doesn't tell.
pub not_told : (t : Option Blocks) (size number at left : ℕ) (page : List ℕ) → 0 < left
    → IfTold t (λ m. Stands m size number at left)
    → IfTold t (λ m. m at ≡ Some (Some page))
    → (IsSound number page → ⊥)
    → t ≡ None
not_told None size number at left page some stands read damaged = refl
not_told (Some m) size number at left page some stands read damaged =
    absurd (damaged (subst (IsSound number) (ap bytes_of read) (first_stands m size number at left some stands).1))

-- The pages that are left are the one that was read and those behind it.
pub pages_behind : (t : Option Blocks) (at left rest next : ℕ) (page : List ℕ)
    → left ≡ rest + 1 → next ≡ next_of page
    → IfTold t (λ m. m at ≡ Some (Some page))
    → IfTold t (λ m. pages_at m at left ≡ page ∷ pages_at m next rest)
pages_behind None at left rest next page fewer names read = tt
pages_behind (Some m) at left rest next page fewer names read =
    ap (pages_at m at) (fewer ∙ add-one rest)
    ∙ ap (λ p. p ∷ pages_at m (next_of p) rest) (ap bytes_of read)
    ∙ ap (λ b. page ∷ pages_at m b rest) (sym names)

-- What is behind the page that was read stands.
pub stands_behind : (m : Blocks) (size number at left rest second next : ℕ) (page : List ℕ)
    → left ≡ rest + 1 → second ≡ number + 1 → next ≡ next_of page
    → m at ≡ Some (Some page)
    → Stands m size number at left
    → Stands m size second next rest
stands_behind m size number at left rest second next page fewer numbered names read stands =
    let all : Stands m size number at (suc rest) = subst (Stands m size number at) (fewer ∙ add-one rest) stands in
    let goes : next_in m at ≡ next = ap (λ o. next_of (bytes_of o)) read ∙ sym names in
    subst (λ k. Stands m size k next rest) (sym numbered) (subst (λ b. Stands m size (number + 1) b rest) goes all.1)

-- What a reader has left stands after each answer.
pub readable_on : (t : Option Blocks) (size : ℕ) (old new : RunReader) (page : List ℕ) (answer : Result Bool StreamFault)
    → 0 < old.left
    → IfTold t (λ m. IsReadable m size old)
    → IfTold t (λ m. m old.at ≡ Some (Some page))
    → (answer ≡ Ok true → HasRead old new page)
    → ((block : ℕ) → IsErrOf answer (Damaged block) → IsUnread old new page block)
    → answer ≢ Ok false
    → answer ≢ Err Spill
    → IfTold t (λ m. IsReadable m size new)
readable_on None size old new page answer some stands read more damaged goes reads = tt
readable_on (Some m) size old new page (Ok true) some stands read more damaged goes reads =
    let h = more refl in
    stands_behind m size (number_at old) old.at old.left new.left (number_at new) new.at page h.fewer h.number h.next read stands
readable_on (Some m) size old new page (Ok false) some stands read more damaged goes reads = absurd (goes refl)
readable_on (Some m) size old new page (Err Spill) some stands read more damaged goes reads = absurd (reads refl)
readable_on (Some m) size old new page (Err (Damaged block)) some stands read more damaged goes reads =
    let none = not_told (Some m) size (number_at old) old.at old.left page some stands read (damaged block refl).damaged in absurd cc

-- The cause of an answer to a page that was read.
pub cause_on : (before now : ℕ) (t : Option Blocks) (size : ℕ) (old new : RunReader) (page : List ℕ) (answer : Result Bool StreamFault)
    → before ≤ now
    → 0 < old.left
    → IfTold t (λ m. IsReadable m size old)
    → IfTold t (λ m. m old.at ≡ Some (Some page))
    → ((block : ℕ) → IsErrOf answer (Damaged block) → IsUnread old new page block)
    → answer ≢ Err Spill
    → HasStreamCause before now t answer
cause_on before now t size old new page answer later some stands read damaged reads = record {
  later = later;
  spill = λ is. absurd (reads is);
  damaged = λ block is. not_told t size (number_at old) old.at old.left page some stands read (damaged block is).damaged;
}
