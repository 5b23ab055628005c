-- Lemmas on the stream of a slice's records.
use Rattle.std.proofs.Common.{◌≡◌, ℕ, ◌+◌, ◌^◌, ◌<◌, ◌≤◌, Bool, true, List, [], ◌∷◌, length, drop, Option, Some, None, Err, refl, sym, ap, ◌∙◌, arith, append-nil, length-append, suc, All, false, ◌==◌}
use Rattle.std.proofs.lemmas.Bool.Decides.{nat_tests}
use Rattle.std.proofs.lemmas.List.{drop_at}
use Rattle.flow_types.specs.Records.{framed, frames}
use Rattle.flow_outside.specs.Blocks.{Blocks}
use Rattle.flow_outside.specs.declared.failure.StreamFault.TheVariants as fault
use Rattle.paged_view.specs.Reading.{HasRecord, first_record, after_first}
use Rattle.paged_view.specs.RecordLaws.{ReadsFirst}
use Rattle.flow_outside.specs.Causes.{HasStreamCause}
use Rattle.paged_view.specs.Streams.{KnowsRows, Advances}
use Rattle.paged_view.proofs.RecordLemmas.{reads_first, length-framed}

-- the rows that a text is known to hold
abbrev pub Holds : List ℕ → List (List ℕ) → Type 0
Holds text rows = (text ≡ frames rows) × All (λ row. length row < 2 ^ 32) rows

head_small : (row : List ℕ) (rows : List (List ℕ)) → All (λ r. length r < 2 ^ 32) (row ∷ rows) → length row < 2 ^ 32
head_small row rows all = all 0 [] (omega arith)

tail_small : (row : List ℕ) (rows : List (List ℕ)) → All (λ r. length r < 2 ^ 32) (row ∷ rows) → All (λ r. length r < 2 ^ 32) rows
tail_small row rows all = λ k d among. all (suc k) d (omega arith)

-- how a text of rows reads its first one
first_row : (text row : List ℕ) (rows : List (List ℕ)) → Holds text (row ∷ rows) → ReadsFirst text row
first_row text row rows holds =
    reads_first text [] row (frames rows) (head_small row rows holds.1) (append-nil text ∙ holds.0)

long : (text row : List ℕ) (rows : List (List ℕ)) → Holds text (row ∷ rows) → 4 + length row ≤ length text
long text row rows holds =
    omega (arith, ap length holds.0, length-framed row, length-append (framed row) (frames rows))

rest_row : (text row : List ℕ) (rows : List (List ℕ)) → Holds text (row ∷ rows) → HasRecord text → after_first text ≡ frames rows
rest_row text row rows holds has =
    let e = (first_row text row rows holds).rest has ∙ holds.0 in
    sym (drop_at (framed row) (after_first text) (4 + length row) (length-framed row)) ∙ ap (drop (4 + length row)) e ∙ drop_at (framed row) (frames rows) (4 + length row) (length-framed row)

pub advances : (text row rest : List ℕ) → HasRecord text → row ≡ first_record text → rest ≡ after_first text → (rows : List (List ℕ)) → Holds text rows → Advances rows true (Some row) (λ left. Holds rest left)
advances text row rest has is behind [] holds = omega (arith, has, ap length holds.0)
advances text row rest has is behind (r ∷ rows) holds = (
  ap Some (is ∙ (first_row text r rows holds).first has),
  (behind ∙ rest_row text r rows holds has, tail_small r rows holds.1),
)

-- a text that begins with no record, and isn't empty, is known to hold no rows
pub damaged : (count : ℕ) (told : Option Blocks) (text : List ℕ) → KnowsRows told (Holds text) → (HasRecord text → ⊥) → (length text ≡ 0 → ⊥) → HasStreamCause {T = Bool} count count told (Err (fault.Damaged 0))
damaged count None text known none some = record { later = omega arith; spill = λ e. absurd (cc); damaged = λ b e. refl }
damaged count (Some blocks) text ([], holds) none some = absurd (some (ap length holds.0))
damaged count (Some blocks) text (row ∷ rows, holds) none some =
    absurd (none ((first_row text row rows holds).whole.1 (long text row rows holds)))

-- what the test for no bytes says
pub some_bytes : (text : List ℕ) (empty : Bool) → empty ≡ (length text == 0) → empty ≡ false → length text ≡ 0 → ⊥
some_bytes text empty is not_empty none = grind (arith, nat_tests)
