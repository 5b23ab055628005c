-- How far a run was read, and what it means that the next page is damaged.
use Rattle.std.proofs.Common.{◌≡◌, ◌≢◌, ◌↔◌, ℕ, ◌+◌, ◌-◌, ◌<◌, ◌≤◌, Bool, zero, suc, false, true, List, [], ◌∷◌, ◌++◌, length, Result, Ok, Err, refl, sym, ap, ◌∙◌, subst, arith, length-append}
use Rattle.std.specs.Prelude.{IsErrOf}
use Rattle.flow_outside.specs.declared.failure.StreamFault.{StreamFault}
use Rattle.flow_outside.specs.declared.failure.StreamFault.TheVariants as fault
use Rattle.spool.specs.Headers.{IsSound, next_of}
use Rattle.spool.specs.Reading.{AreSound, HasComeTo, HasRead, IsDamagedAt, IsUnread, named_by, number_at}
use Rattle.spool.specs.declared.place.RunReader.{RunReader}
use Rattle.spool.specs.declared.run.Run.{Run}

named_more : (pages : List (List ℕ)) (at : ℕ) (page : List ℕ) → named_by (pages ++ page ∷ []) at ≡ next_of page
named_more [] at page = refl
named_more (p ∷ pages) at page = named_more pages (next_of p) page

sound_more : (pages : List (List ℕ)) (number : ℕ) (page : List ℕ) → AreSound pages number → IsSound (number + length pages) page → AreSound (pages ++ page ∷ []) number
sound_more [] number page sound here = (subst (λ n. IsSound n page) (omega arith) here, tt)
sound_more (p ∷ pages) number page (first, rest) here = (first, sound_more pages (number + 1) page rest (subst (λ n. IsSound n page) (omega arith) here))

pub come_first : (run : Run) (reader : RunReader) → reader.at ≡ run.first → reader.left ≡ run.pages → reader.pages ≡ run.pages → HasComeTo run reader
come_first run reader at left pages = record {
  before = [];
  sound = tt;
  named = at;
  number = omega (arith, left, pages);
  pages = pages;
  within = omega (arith, left, pages);
}

pub come_on : (run : Run) (old new : RunReader) (page : List ℕ) → HasComeTo run old → HasRead old new page → HasComeTo run new
come_on run old new page come read = record {
  before = come.before ++ page ∷ [];
  sound = sound_more come.before 0 page come.sound (subst (λ n. IsSound n page) (omega (arith, come.number)) read.sound);
  named = read.next ∙ sym (named_more come.before run.first page);
  number = omega (arith, read.number, come.number, length-append come.before (page ∷ []));
  pages = read.pages ∙ come.pages;
  within = omega (arith, read.fewer, read.pages, come.within);
}

some_left : (answer : Result Bool StreamFault) (block left : ℕ) → IsErrOf answer (fault.Damaged block) → (answer ≡ Ok false) ↔ (left ≡ 0) → 0 < left
some_left (Ok more) block left is end = cc
some_left (Err given) block zero is end = let no_way = end.1 refl in cc
some_left (Err given) block (suc left) is end = omega arith

pub damaged_at : (run : Run) (old new : RunReader) (page : List ℕ) (answer : Result Bool StreamFault) (block : ℕ) → HasComeTo run old → IsErrOf answer (fault.Damaged block) → (answer ≡ Ok false) ↔ (old.left ≡ 0)
    → IsUnread old new page block → IsDamagedAt run block page
damaged_at run old new page answer block come is end unread = record {
  before = come.before;
  sound = come.sound;
  named = unread.read ∙ come.named;
  fewer = omega (arith, come.number, come.pages, come.within, some_left answer block old.left is end);
  damaged = λ sound. unread.damaged (subst (λ n. IsSound n page) (sym come.number) sound);
}

-- the fault of an answer
pub same_fault : (f g : StreamFault) → ◌≡◌ {A = Result Unit StreamFault} (Err f) (Err g) → f ≡ g
same_fault f g is = cc
