-- The greatest row is the last one in the order of the rank.
use Rattle.std.proofs.Common.{◌≡◌, ℕ, [], ◌∷◌, ◌++◌, length, eqb, refl, arith}
use Rattle.std.proofs.lemmas.Bool.Decides.{nat_tests}
use Rattle.flow_types.specs.Tuples.{Tuple}
use Rattle.flow_model.specs.Env.{Tuples}
use Rattle.flow_model.specs.Rows.{is_nothing}
use Rattle.flow_model.specs.Solutions.{last_row}

pub last_row-push : (rows : Tuples) (t : Tuple) → last_row (rows ++ t ∷ []) ≡ t ∷ []
last_row-push [] t = refl
last_row-push (u ∷ []) t = refl
last_row-push (u ∷ v ∷ rows) t = last_row-push (v ∷ rows) t

-- the test of an empty vector
pub is_nothing-len : (rows : Tuples) (len : ℕ) → len ≡ length rows → is_nothing rows ≡ eqb len 0
is_nothing-len [] len h = grind (arith, nat_tests)
is_nothing-len (t ∷ rows) len h = grind (arith, nat_tests)
