-- Lists of types, place by place.
use Rattle.std.proofs.Common.{◌≡◌, ◌≢◌, Bool, true, false, ◌&&◌, [], ◌∷◌, ◌++◌, length, Option, Some, None, refl, ap, arith}
use Rattle.std.specs.Prelude.{option_map}
use Rattle.flow_types.specs.declared.field_type.FieldType.{FieldType}
use Rattle.flow_types.specs.Types.{Fields}
use Rattle.flow_types.specs.ExprTypes.{widened}
use Rattle.flow_model.specs.Schemas.{takes, fits_schema, both_widened, first_and_others}

-- lists of different lengths don't fit
pub fits_schema_length : (from into : Fields) → length from ≢ length into → false ≡ fits_schema from into
fits_schema_length [] [] h = absurd (h refl)
fits_schema_length [] (g ∷ gs) h = refl
fits_schema_length (f ∷ fs) [] h = refl
fits_schema_length (f ∷ fs) (g ∷ gs) h = go (takes g f) (fits_schema_length fs gs (λ e. h (omega (arith, e))))
  where
    go : (b : Bool) → false ≡ fits_schema fs gs → false ≡ (b && fits_schema fs gs)
    go true e = e
    go false e = refl

-- nor are they widened
pub both_widened_length : (a b : Fields) → length a ≢ length b → None ≡ both_widened a b
both_widened_length [] [] h = absurd (h refl)
both_widened_length [] (g ∷ gs) h = refl
both_widened_length (f ∷ fs) [] h = refl
both_widened_length (f ∷ fs) (g ∷ gs) h = go (widened f g) (both_widened_length fs gs (λ e. h (omega (arith, e))))
  where
    go : (o : Option FieldType) → None ≡ both_widened fs gs → None ≡ first_and_others o (both_widened fs gs)
    go None e = refl
    go (Some t) e = ap (first_and_others (Some t)) e

-- types that were found before others
abbrev pub onto : Fields → Option Fields → Option Fields
onto done rest = option_map (λ ts. done ++ ts) rest
