-- A record's Long against a number.
use Rattle.std.proofs.Common.{◌≡◌, ℕ, Bool, true, false, List, take, drop, get_or, slice_get, Some, refl, sym, ◌∙◌, ap, arith, cond, ℤ, int_lt}
use Rattle.std.specs.Int.{from_be_bytes, cast_signed, w64}
use Rattle.std.specs.Ordering.{int_cmp, is_gt}
use Rattle.std.specs.declared.cmp.Ordering.TheVariants.{Less, Equal, Greater}
use Rattle.std.proofs.lemmas.Int.{ints}
use Rattle.std.proofs.lemmas.Option.{get_or_from_slice_get, slice_get_within}
use Rattle.flow_types.specs.declared.value.Value.{Value}
use Rattle.flow_types.specs.declared.value.Value.TheVariants as value
use Rattle.flow_types.specs.declared.field_type.FieldType.{FieldType}
use Rattle.flow_types.specs.declared.field_type.FieldType.TheVariants as type
use Rattle.flow_types.specs.Values.{value_cmp}
use Rattle.flow_types.specs.Tuples.{field}
use Rattle.flow_types.specs.Types.{Fields}
use Rattle.flow_types.specs.Records.{first_value, tuple_of}
use Rattle.record_codec.specs.declared.place.Place.{Place}
use Rattle.record_codec.specs.Places.{place_in, place_of, start_of}
use Rattle.record_codec.proofs.PlaceLemmas.{tuple_at}
use Rattle.packed_rows.specs.Packed.{is_above}

-- one number below another, by their order
int_above : (a n : ℤ) → int_lt n a ≡ is_gt (int_cmp a n)
int_above a n = by (int_lt a n) (int_lt n a) refl refl
  where
    by : (x y : Bool) → int_lt a n ≡ x → int_lt n a ≡ y → y ≡ is_gt (cond x Less (cond y Greater Equal))
    by true true e f = absurd (omega (arith, ints))
    by true false e f = refl
    by false true e f = refl
    by false false e f = refl

-- the eight bytes at a Long's place are the Long in that field
pub long_read : (fields : Fields) (bytes : List ℕ) (k : ℕ) (place : Place) (long : ℤ)
    → slice_get fields k ≡ Some type.Long → place ≡ place_of fields bytes k
    → long ≡ cast_signed w64 (from_be_bytes w64 (take 8 (drop place.start bytes)))
    → field k (tuple_of fields bytes) ≡ value.Long long
long_read fields bytes k place long is found read =
    let start : ℕ = start_of (take k fields) bytes in
    let kind : get_or fields k type.Long ≡ type.Long = get_or_from_slice_get fields k type.Long type.Long is in
    let at : place.start ≡ start =
    ap (λ (p : Place). p.start) (found ∙ ap (λ (f : FieldType). place_in f start bytes) kind) in
    tuple_at fields bytes k type.Long (slice_get_within fields k type.Long is)
    ∙ ap (λ (f : FieldType). first_value f (drop start bytes)) kind
    ∙ ap (λ (n : ℕ). value.Long (cast_signed w64 (from_be_bytes w64 (take 8 (drop n bytes))))) (sym at)
    ∙ ap (λ (z : ℤ). value.Long z) (sym read)

-- so the test of the number is that of the tuple
pub above_read : (fields : Fields) (bytes : List ℕ) (k : ℕ) (place : Place) (long n : ℤ)
    → slice_get fields k ≡ Some type.Long → place ≡ place_of fields bytes k
    → long ≡ cast_signed w64 (from_be_bytes w64 (take 8 (drop place.start bytes)))
    → int_lt n long ≡ is_above k n (tuple_of fields bytes)
above_read fields bytes k place long n is found read =
    int_above long n ∙ ap (λ (v : Value). is_gt (value_cmp v (value.Long n))) (sym (long_read fields bytes k place long is found read))
