-- Where the fields of a schema begin.
use Rattle.std.proofs.Common.{◌≡◌, ℕ, zero, suc, ◌+◌, ◌≤◌, ◌<◌, get_or, List, [], ◌∷◌, length, take, refl, arith}
use Rattle.std.specs.Prelude.{IsTrue}
use Rattle.std.proofs.lemmas.Bool.Decides.{nat_tests}
use Rattle.flow_types.specs.Types.{Fields, is_placed, is_schema, widest}
use Rattle.flow_types.specs.declared.field_type.FieldType.TheVariants as type
use Rattle.flow_types.specs.Starts.{IsTable}

-- before an earlier field there is no text either
pub placed_less : (fields : Fields) (m n : ℕ) → m ≤ n → IsTrue (is_placed fields n) → IsTrue (is_placed fields m)
placed_less [] zero n h p = refl
placed_less [] (suc m) n h p = refl
placed_less (f ∷ fs) zero n h p = refl
placed_less (f ∷ fs) (suc m) zero h p = absurd (omega arith)
placed_less (type.Long ∷ fs) (suc m) (suc n) h p = placed_less fs m n (omega arith) p
placed_less (type.Bool ∷ fs) (suc m) (suc n) h p = placed_less fs m n (omega arith) p
placed_less (type.Str b ∷ fs) (suc m) (suc n) h p = p

-- behind the first text no field has one place
pub placed_past : (fields : Fields) (starts : List ℕ) (count number : ℕ) → IsTable fields starts count → count < number → number < length fields → ¬ IsTrue (is_placed fields number)
placed_past fields starts count number t past among p =
    t.until (omega arith) (placed_less fields (count + 1) number (omega arith) p)

-- a schema has at most 32 fields
few : (fields : Fields) → IsTrue (is_schema fields) → length fields ≤ 32
few fields h = grind (arith, nat_tests)

-- the table holds the place of a field with no text before it
pub placed_at : (fields : Fields) (starts : List ℕ) (count number : ℕ) → IsTrue (is_schema fields) → IsTable fields starts count → number ≤ count → number < length fields → IsTrue (is_placed fields number) × (get_or starts number 0 ≡ widest (take number fields))
placed_at fields starts count number limits t before among =
    (placed_less fields number count before t.placed, t.begins number before (omega (arith, few fields limits)))
