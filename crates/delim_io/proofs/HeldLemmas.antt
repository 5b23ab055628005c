-- The tuple of a line is one of the schema: it fits, and each value is one that a field can hold.
use Rattle.std.proofs.Common.{◌≡◌, ℕ, zero, suc, ◌-◌, ◌^◌, ◌≤◌, ◌==◌, nat_le, Bool, true, false, ◌&&◌, IsTrue, if◌then◌else◌, List, [], ◌∷◌, length, Option, Some, None, IfSome, option_map, ℤ, refl, subst, arith}
use Rattle.std.specs.Prelude.{FitsSigned, pos, neg_ℤ}
use Rattle.std.specs.Int.{w64}
use Rattle.std.specs.List.{list_all}
use Rattle.std.specs.Str.{is_utf8}
use Rattle.std.specs.Str.Parse.{digits_value}
use Rattle.std.proofs.lemmas.Bool.Decides.{nat_tests}
use Rattle.flow_types.specs.Decimal.{is_numeral, number_up_to}
use Rattle.flow_types.specs.declared.value.Value.{Value}
use Rattle.flow_types.specs.declared.value.Value.TheVariants as value
use Rattle.flow_types.specs.declared.field_type.FieldType.{FieldType}
use Rattle.flow_types.specs.declared.field_type.FieldType.TheVariants as type
use Rattle.flow_types.specs.Limits.{field_limit, record_limit, text_limit}
use Rattle.flow_types.specs.Records.{IsTupleOf}
use Rattle.flow_types.specs.Tuples.{Tuple}
use Rattle.flow_types.specs.Types.{Fields, is_bounded, is_schema, widest}
use Rattle.flow_types.specs.Values.{is_long, is_value}
use Rattle.flow_types.proofs.ValueLemmas.{both_pass, both_true, long_from_fits}
use Rattle.delim_io.specs.Fields.{bool_value, field_value, first_and_others, long_value, text_value, tuple_of}
use Rattle.delim_io.specs.Input.{is_plain_line, parts_at, tuple_of_line}
use Rattle.delim_io.proofs.FieldLemmas.{tuple_fits}

-- a numeral's number isn't above its limit
number_bounded : (most : ℕ) (text : List ℕ) (n : ℕ) → number_up_to most text ≡ Some n → n ≤ most
number_bounded most text n e = by (is_numeral text) (nat_le (digits_value 10 text) most) refl e
  where
    by : (a b : Bool) → nat_le (digits_value 10 text) most ≡ b → (if a && b then Some (digits_value 10 text) else None) ≡ Some n → n ≤ most
    by true true low e =
        let same : digits_value 10 text ≡ n = cc in
        grind (arith, nat_tests, low, same)
    by true false low e = cc
    by false b low e = cc

negative_fits : (n : ℕ) → n ≤ 2 ^ 63 → FitsSigned w64 (neg_ℤ (pos n))
negative_fits zero low = record { sfits = omega arith }
negative_fits (suc n) low = record { sfits = low }

negative_held : (o : Option ℕ) → ((n : ℕ) → o ≡ Some n → n ≤ 2 ^ 63) → (z : ℤ) → option_map (λ n. neg_ℤ (pos n)) o ≡ Some z → is_long z ≡ true
negative_held None low z e = cc
negative_held (Some n) low z e =
    let same : neg_ℤ (pos n) ≡ z = cc in
    subst (λ k. is_long k ≡ true) same (long_from_fits (neg_ℤ (pos n)) (negative_fits n (low n refl)))

positive_held : (o : Option ℕ) → ((n : ℕ) → o ≡ Some n → n ≤ 2 ^ 63 - 1) → (z : ℤ) → option_map pos o ≡ Some z → is_long z ≡ true
positive_held None low z e = cc
positive_held (Some n) low z e =
    let same : pos n ≡ z = cc in
    subst (λ k. is_long k ≡ true) same (long_from_fits (pos n) (record { sfits = omega (arith, low n refl) }))

-- a Long's text stands for a number of 64 bits
long_held : (text : List ℕ) (z : ℤ) → long_value text ≡ Some z → is_long z ≡ true
long_held [] z e = cc
long_held (b ∷ rest) z e = by (b == 45) e
  where
    by : (t : Bool) → (if t then option_map (λ n. neg_ℤ (pos n)) (number_up_to (2 ^ 63) rest) else option_map pos (number_up_to (2 ^ 63 - 1) (b ∷ rest))) ≡ Some z → is_long z ≡ true
    by true e = negative_held (number_up_to (2 ^ 63) rest) (λ n is. number_bounded (2 ^ 63) rest n is) z e
    by false e = positive_held (number_up_to (2 ^ 63 - 1) (b ∷ rest)) (λ n is. number_bounded (2 ^ 63 - 1) (b ∷ rest) n is) z e

long_is_value : (o : Option ℤ) → ((z : ℤ) → o ≡ Some z → is_long z ≡ true) → (v : Value) → option_map value.Long o ≡ Some v → is_value v ≡ true
long_is_value None held v e = cc
long_is_value (Some z) held v e =
    let same : value.Long z ≡ v = cc in
    subst (λ w. is_value w ≡ true) same (held z refl)

bool_is_value : (o : Option Bool) (v : Value) → option_map value.Bool o ≡ Some v → is_value v ≡ true
bool_is_value None v e = cc
bool_is_value (Some b) v e =
    let same : value.Bool b ≡ v = cc in
    subst (λ w. is_value w ≡ true) same refl

text_is_value : (bound : ℕ) (text : List ℕ) (v : Value) → nat_le bound text_limit ≡ true → option_map value.Str (text_value bound text) ≡ Some v → is_value v ≡ true
text_is_value bound text v low e = by (nat_le (length text) bound) (is_utf8 text) refl refl e
  where
    by : (a b : Bool) → nat_le (length text) bound ≡ a → is_utf8 text ≡ b → option_map value.Str (if a && b then Some text else None) ≡ Some v → is_value v ≡ true
    by true true short valid e =
        let same : value.Str text ≡ v = cc in
        let within : nat_le (length text) text_limit ≡ true = grind (arith, nat_tests, short, low) in
        subst (λ w. is_value w ≡ true) same (both_pass (nat_le (length text) text_limit) (is_utf8 text) within valid)
    by true false short valid e = cc
    by false b short valid e = cc

-- the value of a field's text is one that a field can hold
field_held : (f : FieldType) (text : List ℕ) (v : Value) → is_bounded f ≡ true → field_value f text ≡ Some v → is_value v ≡ true
field_held type.Long text v low e = long_is_value (long_value text) (λ z is. long_held text z is) v e
field_held type.Bool text v low e = bool_is_value (bool_value text) v e
field_held (type.Str bound) text v low e = text_is_value bound text v low e

tuple_held : (fields : Fields) (texts : List (List ℕ)) (t : Tuple) → list_all is_bounded fields ≡ true → tuple_of fields texts ≡ Some t → list_all is_value t ≡ true
tuple_held [] [] t low e =
    let same : [] ≡ t = cc in
    subst (λ vs. list_all is_value vs ≡ true) same refl
tuple_held [] (text ∷ texts) t low e = cc
tuple_held (f ∷ fs) [] t low e = cc
tuple_held (f ∷ fs) (text ∷ texts) t low e =
    let bounded : (is_bounded f ≡ true) × (list_all is_bounded fs ≡ true) = both_true (is_bounded f) (list_all is_bounded fs) low in
    by (field_value f text) (tuple_of fs texts) (λ v is. field_held f text v bounded.0 is) (λ vs is. tuple_held fs texts vs bounded.1 is) e
  where
    by : (first : Option Value) (others : Option Tuple) → ((v : Value) → first ≡ Some v → is_value v ≡ true) → ((vs : Tuple) → others ≡ Some vs → list_all is_value vs ≡ true)
        → first_and_others first others ≡ Some t → list_all is_value t ≡ true
    by None None held more e = cc
    by None (Some vs) held more e = cc
    by (Some v) None held more e = cc
    by (Some v) (Some vs) held more e =
        let same : v ∷ vs ≡ t = cc in
        subst (λ ws. list_all is_value ws ≡ true) same (both_pass (is_value v) (list_all is_value vs) (held v refl) (more vs refl))

-- no bound of a schema is above a text's
schema_bounded : (fields : Fields) → IsTrue (is_schema fields) → list_all is_bounded fields ≡ true
schema_bounded fields is =
    let few : Bool = nat_le 1 (length fields) && nat_le (length fields) field_limit in
    let bounded = both_true (few && list_all is_bounded fields) (nat_le (widest fields) record_limit) is in
    (both_true few (list_all is_bounded fields) bounded.0).1

-- the tuple of a line is one of the schema
pub line_tuple : (fields : Fields) (delimiter : ℕ) (line : List ℕ) (t : Tuple) → IsTrue (is_schema fields) → tuple_of_line fields delimiter line ≡ Some t → IsTupleOf fields t
line_tuple fields delimiter line t is e = by (is_plain_line line) e
  where
    by : (b : Bool) → (if b then tuple_of fields (parts_at delimiter line) else None) ≡ Some t → IsTupleOf fields t
    by true e = record {
      fitting = tuple_fits fields (parts_at delimiter line) t e;
      values = tuple_held fields (parts_at delimiter line) t (schema_bounded fields is) e;
    }
    by false e = cc

pub each_tuple : (fields : Fields) (delimiter : ℕ) (line : List ℕ) → IsTrue (is_schema fields) → (answer : Option ℕ) → IfSome answer (λ end. (t : Tuple) → tuple_of_line fields delimiter line ≡ Some t → IsTupleOf fields t)
each_tuple fields delimiter line is None = tt
each_tuple fields delimiter line is (Some end) = λ t e. line_tuple fields delimiter line t is e
