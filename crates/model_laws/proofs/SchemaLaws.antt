-- Schemas that have the tuples of others, and schemas that are one.
use Rattle.std.proofs.Common.{◌≡◌, ℕ, true, List, [], ◌∷◌, max, refl, ap, subst, arith, Option, Some, None, zero, suc}
use Rattle.std.specs.Prelude.{slice_get, nat_le}
use Rattle.std.specs.List.{list_all, AllByRecursion}
use Rattle.std.proofs.lemmas.Bool.Decides.{nat_tests}
use Rattle.std.proofs.lemmas.Option.{option_and_then_some}
use Rattle.flow_types.specs.declared.value.Value.{Value}
use Rattle.flow_types.specs.declared.value.Value.TheVariants as value
use Rattle.flow_types.specs.declared.field_type.FieldType.{FieldType}
use Rattle.flow_types.specs.declared.field_type.FieldType.TheVariants as type
use Rattle.flow_types.specs.Values.{is_value}
use Rattle.flow_types.specs.Types.{Fields, fits, fits_field}
use Rattle.flow_types.specs.Tuples.{Tuple, field, key_of}
use Rattle.flow_types.specs.Records.{IsTupleOf}
use Rattle.flow_types.specs.ExprTypes.{widened}
use Rattle.flow_types.proofs.ValueLemmas.{both_true, both_pass, value-field}
use Rattle.flow_model.specs.Schemas.{takes, fits_schema, both_widened, all_widened, fields_at}
use Rattle.flow_model.specs.Rules.{is_fields, are_inputs}

-- ---- a type that has the values of another

takes-fits : (g f : FieldType) (v : Value) → takes g f ≡ true → fits_field f v ≡ true → fits_field g v ≡ true
takes-fits type.Long type.Long v e h = h
takes-fits type.Bool type.Bool v e h = h
takes-fits (type.Str m) (type.Str n) (value.Long k) e h = cc
takes-fits (type.Str m) (type.Str n) (value.Bool b) e h = cc
takes-fits (type.Str m) (type.Str n) (value.Str s) e h = grind (arith, nat_tests)
takes-fits type.Long type.Bool v e h = cc
takes-fits type.Long (type.Str n) v e h = cc
takes-fits type.Bool type.Long v e h = cc
takes-fits type.Bool (type.Str n) v e h = cc
takes-fits (type.Str m) type.Long v e h = cc
takes-fits (type.Str m) type.Bool v e h = cc

at_takes : (k f g : FieldType) → Some k ≡ Some f → takes k g ≡ true → takes f g ≡ true
at_takes k f g e h = let same : k ≡ f = cc in subst (λ x. takes x g ≡ true) same h

le_max_left : (m n : ℕ) → nat_le m (max m n) ≡ true
le_max_left m n = grind (arith, nat_tests)

le_max_right : (m n : ℕ) → nat_le n (max m n) ≡ true
le_max_right m n = grind (arith, nat_tests)

widened-takes : (g h f : FieldType) → widened g h ≡ Some f → (takes f g ≡ true) × (takes f h ≡ true)
widened-takes type.Long type.Long f e = (at_takes type.Long f type.Long e refl, at_takes type.Long f type.Long e refl)
widened-takes type.Bool type.Bool f e = (at_takes type.Bool f type.Bool e refl, at_takes type.Bool f type.Bool e refl)
widened-takes (type.Str m) (type.Str n) f e =
    (at_takes (type.Str (max m n)) f (type.Str m) e (le_max_left m n), at_takes (type.Str (max m n)) f (type.Str n) e (le_max_right m n))
widened-takes type.Long type.Bool f e = cc
widened-takes type.Long (type.Str n) f e = cc
widened-takes type.Bool type.Long f e = cc
widened-takes type.Bool (type.Str n) f e = cc
widened-takes (type.Str m) type.Long f e = cc
widened-takes (type.Str m) type.Bool f e = cc

-- ---- a schema that has the tuples of another

abbrev pub HasTuplesOf : Fields → Fields → Type 0
HasTuplesOf fs gs = (t : Tuple) → IsTupleOf gs t → IsTupleOf fs t

fits-wider : (fs gs : Fields) (t : Tuple) → fits_schema fs gs ≡ true → fits fs t ≡ true → fits gs t ≡ true
fits-wider [] [] t e h = h
fits-wider [] (g ∷ gs) t e h = cc
fits-wider (f ∷ fs) [] t e h = cc
fits-wider (f ∷ fs) (g ∷ gs) [] e h = cc
fits-wider (f ∷ fs) (g ∷ gs) (v ∷ t) e h =
    let one = both_true (takes g f) (fits_schema fs gs) e in
    let two = both_true (fits_field f v) (fits fs t) h in
    both_pass (fits_field g v) (fits gs t) (takes-fits g f v one.0 two.0) (fits-wider fs gs t one.1 two.1)

pub tuple-wider : (fs gs : Fields) → fits_schema fs gs ≡ true → HasTuplesOf gs fs
tuple-wider fs gs e t h = record { fitting = fits-wider fs gs t e h.fitting; values = h.values }

pub both_widened-fit : (fs gs hs : Fields) → both_widened fs gs ≡ Some hs → (fits_schema fs hs ≡ true) × (fits_schema gs hs ≡ true)
both_widened-fit [] [] hs e = let nil : [] ≡ hs = cc in subst (λ ks. (fits_schema [] ks ≡ true) × (fits_schema [] ks ≡ true)) nil (refl, refl)
both_widened-fit [] (g ∷ gs) hs e = cc
both_widened-fit (f ∷ fs) [] hs e = cc
both_widened-fit (f ∷ fs) (g ∷ gs) hs e =
    option_and_then_some _ (widened f g) hs e (λ k p q. option_and_then_some _ (both_widened fs gs) hs q (λ ks r s.
    let both = widened-takes f g k p in
    let rest = both_widened-fit fs gs ks r in
    let cons : k ∷ ks ≡ hs = cc in
    subst (λ ls. (fits_schema (f ∷ fs) ls ≡ true) × (fits_schema (g ∷ gs) ls ≡ true)) cons
    (both_pass (takes k f) (fits_schema fs ks) both.0 rest.0, both_pass (takes k g) (fits_schema gs ks) both.1 rest.1)))

pub all_widened-fit : (lists : List Fields) (hs : Fields) → all_widened lists ≡ Some hs → AllByRecursion (HasTuplesOf hs) lists
all_widened-fit [] hs e = cc
all_widened-fit (fs ∷ []) hs e = let same : fs ≡ hs = cc in (λ t h. subst (λ ks. IsTupleOf ks t) same h, tt)
all_widened-fit (fs ∷ gs ∷ rest) hs e =
    option_and_then_some (both_widened fs) (all_widened (gs ∷ rest)) hs e (λ ks p q.
    let both = both_widened-fit fs ks hs q in
    (tuple-wider fs hs both.0, wider (gs ∷ rest) ks (tuple-wider ks hs both.1) (all_widened-fit (gs ∷ rest) ks p)))
  where
    wider : (lists : List Fields) (ks : Fields) → HasTuplesOf hs ks → AllByRecursion (HasTuplesOf ks) lists → AllByRecursion (HasTuplesOf hs) lists
    wider [] ks w h = tt
    wider (ls ∷ lists) ks w h = (λ t r. w t (h.0 t r), wider lists ks w h.1)

-- ---- schemas that are one

takes-same : (f g : FieldType) → takes g f ≡ true → takes f g ≡ true → f ≡ g
takes-same type.Long type.Long d e = refl
takes-same type.Bool type.Bool d e = refl
takes-same (type.Str m) (type.Str n) d e = let same : m ≡ n = grind (arith, nat_tests) in ap (λ k. type.Str k) same
takes-same type.Long type.Bool d e = cc
takes-same type.Long (type.Str n) d e = cc
takes-same type.Bool type.Long d e = cc
takes-same type.Bool (type.Str n) d e = cc
takes-same (type.Str m) type.Long d e = cc
takes-same (type.Str m) type.Bool d e = cc

fits_schema-same : (fs gs : Fields) → fits_schema fs gs ≡ true → fits_schema gs fs ≡ true → fs ≡ gs
fits_schema-same [] [] d e = refl
fits_schema-same [] (g ∷ gs) d e = cc
fits_schema-same (f ∷ fs) [] d e = cc
fits_schema-same (f ∷ fs) (g ∷ gs) d e =
    let one = both_true (takes g f) (fits_schema fs gs) d in
    let two = both_true (takes f g) (fits_schema gs fs) e in
    let head : f ≡ g = takes-same f g one.0 two.0 in
    let tail : fs ≡ gs = fits_schema-same fs gs one.1 two.1 in
    cc

pub same_fields : (found : Option Fields) (fields : Fields) → is_fields found fields ≡ true → found ≡ Some fields
same_fields None fields e = cc
same_fields (Some found) fields e =
    let both = both_true (fits_schema found fields) (fits_schema fields found) e in
    ap (λ fs. Some fs) (fits_schema-same found fields both.0 both.1)

pub same_inputs : (fs gs : List Fields) → are_inputs fs gs ≡ true → fs ≡ gs
same_inputs [] [] e = refl
same_inputs [] (g ∷ gs) e = cc
same_inputs (f ∷ fs) [] e = cc
same_inputs (f ∷ fs) (g ∷ gs) e =
    let both = both_true (is_fields (Some f) g) (are_inputs fs gs) e in
    let head : f ≡ g = let some : Some f ≡ Some g = same_fields (Some f) g both.0 in cc in
    let tail : fs ≡ gs = same_inputs fs gs both.1 in
    cc

-- ---- keys

field-fits : (fields : Fields) (t : Tuple) (k : ℕ) (f : FieldType) → fits fields t ≡ true → slice_get fields k ≡ Some f → fits_field f (field k t) ≡ true
field-fits [] t k f h e = cc
field-fits (g ∷ fields) [] k f h e = cc
field-fits (g ∷ fields) (v ∷ t) zero f h e =
    let same : g ≡ f = cc in subst (λ k. fits_field k v ≡ true) same (both_true (fits_field g v) (fits fields t) h).0
field-fits (g ∷ fields) (v ∷ t) (suc k) f h e = field-fits fields t k f (both_true (fits_field g v) (fits fields t) h).1 e

pub tuple-nil : IsTupleOf [] []
tuple-nil = record { fitting = refl; values = refl }

pub tuple-cons : (f : FieldType) (fs : Fields) (v : Value) (t : Tuple) → fits_field f v ≡ true → is_value v ≡ true → IsTupleOf fs t → IsTupleOf (f ∷ fs) (v ∷ t)
tuple-cons f fs v t g h r =
    record { fitting = both_pass (fits_field f v) (fits fs t) g r.fitting; values = both_pass (is_value v) (list_all is_value t) h r.values }

pub tuple-key : (fields ks : Fields) (key : List ℕ) → fields_at fields key ≡ Some ks → (t : Tuple) → IsTupleOf fields t → IsTupleOf ks (key_of key t)
tuple-key fields ks [] e t r = let nil : [] ≡ ks = cc in subst (λ fs. IsTupleOf fs []) nil tuple-nil
tuple-key fields ks (k ∷ key) e t r =
    option_and_then_some _ (slice_get fields k) ks e (λ f p q. option_and_then_some _ (fields_at fields key) ks q (λ fs o s.
    let cons : f ∷ fs ≡ ks = cc in
    subst (λ gs. IsTupleOf gs (key_of (k ∷ key) t)) cons
    (tuple-cons f fs (field k t) (key_of key t) (field-fits fields t k f r.fitting p) (value-field k t r.values) (tuple-key fields fs key o t r))))
