use Rattle.std.proofs.Common.{◌≡◌, ℕ, zero, suc, List, [], ◌∷◌, ◌++◌, Option, None, cond, slice_index_or, refl, ◌∙◌, add-zero}
use Rattle.std.proofs.lemmas.List.Sums.{sum_by-append}
use Rattle.std.specs.Option.{is_some}
use Rattle.flow_outside.specs.Slots.{living_in}

-- One more slot with no reader: none of the slots has one.
pub pushed_none : {X : Type 0} (slots : List (Option X)) (id : ℕ) → ((k : ℕ) → slice_index_or slots k None ≡ None) → slice_index_or (slots ++ None ∷ []) id None ≡ None
pushed_none [] zero all = refl
pushed_none [] (suc id) all = refl
pushed_none (slot ∷ slots) zero all = all 0
pushed_none (slot ∷ slots) (suc id) all = pushed_none slots id (λ k. all (suc k))

-- One more slot with no reader: as many live.
pub pushed_living : {X : Type 0} (slots : List (Option X)) → living_in (slots ++ None ∷ []) ≡ living_in slots
pushed_living slots = sum_by-append (λ slot. cond (is_some slot) 1 0) slots (None ∷ []) ∙ add-zero (living_in slots)
