-- The line of a source's file that couldn't be read.
use Rattle.std.proofs.Common.{◌≡◌, ◌≢◌, ℕ, List, [], ◌∷◌, false, eqb, codes, refl, arith}
use Rattle.std.specs.List.{concat}
use Rattle.std.proofs.lemmas.Bool.Decides.{nat_tests}
use Rattle.job_report.specs.Lines.{read_text}

pub read_text_input : (name : List ℕ) (source : ℕ) → source ≢ 0 → concat (codes "read failed: input " ∷ name ∷ codes "\n" ∷ []) ≡ read_text name source
read_text_input name source other =
    let e : eqb source 0 ≡ false = grind (arith, nat_tests) in
    rw e refl
