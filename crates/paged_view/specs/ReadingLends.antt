-- What a reader is after it lent a record.
use Rattle.std.specs.Prelude.{◌≡◌, ⊤, Result, MatchResult}
use Rattle.std.specs.Borrow.{follows_so, MutBor, Fml}
use mathlib.Core.Option.{none}
use Rattle.paged_view.specs.Reading.{Reading, moved}
use Rattle.paged_view.specs.contracts.reader.PageReader.{the_row}

-- The reader ends as one that moved past its text's first record where a record was given, and else as it was.
abbrev pub MovesIfOk : {T E : Type 0} → MutBor Reading → Result T E → Fml
MovesIfOk s r = follows_so the_row the_row s.ghost_name none (λ _ _. ⊤) (λ n. MatchResult r (λ _. n ≡ moved s.now) (λ _. n ≡ s.now))
