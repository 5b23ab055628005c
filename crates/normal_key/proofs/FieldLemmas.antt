-- Fields where they lie.
use Rattle.std.proofs.Common.{◌≡◌, ℕ, zero, suc, ◌+◌, ◌<◌, ◌≤◌, ◌≢◌, Bool, true, List, [], ◌∷◌, ◌++◌, length, take, drop, slice_index, slice_index_or, refl, sym, ◌∙◌, ap, arith, ℤ, pos, not, ◌==◌, FitsSigned, to_z-of_z}
use Rattle.std.specs.Int.{from_be_bytes, cast_signed, cast_unsigned, w16, w64}
use Rattle.std.specs.declared.cmp.Ordering.{Ordering}
use Rattle.std.specs.declared.cmp.Ordering.TheVariants.{Less, Equal, Greater}
use Rattle.std.specs.Ordering.{ordering_then, int_cmp}
use Rattle.std.specs.List.{flat_map}
use Rattle.std.proofs.lemmas.Bool.{cond-true}
use Rattle.std.proofs.lemmas.Cmp.{tied_itself}
use Rattle.std.proofs.lemmas.List.{drop-drop, drop_all}
use Rattle.flow_types.specs.declared.value.Value.{Value}
use Rattle.flow_types.specs.declared.value.Value.TheVariants as value
use Rattle.flow_types.specs.declared.field_type.FieldType.{FieldType}
use Rattle.flow_types.specs.declared.field_type.FieldType.TheVariants as type
use Rattle.flow_types.specs.Values.{value_cmp}
use Rattle.flow_types.specs.Tuples.{Tuple, field, tuple_cmp}
use Rattle.flow_types.specs.Types.{Fields}
use Rattle.flow_types.specs.Records.{first_value, taken, tuple_of}
use Rattle.flow_types.proofs.OrderLaws.{value_cmp_total}
use Rattle.record_codec.specs.declared.place.Place.{Place}
use Rattle.record_codec.specs.Places.{place_in, place_of, start_of}
use Rattle.record_codec.proofs.PlaceLemmas.{tuple_at}
use Rattle.normal_key.specs.NormalForms.{normal_form, whole_form}
use Rattle.normal_key.proofs.WrittenLemmas.{forms_more}

pub length-tuple_of : (fields : Fields) (bytes : List ℕ) → length (tuple_of fields bytes) ≡ length fields
length-tuple_of [] bytes = refl
length-tuple_of (f ∷ fs) bytes = ap suc (length-tuple_of fs (drop (taken f bytes) bytes))

-- a field past the end is the Long 0
pub field_past : (fields : Fields) (bytes : List ℕ) (i : ℕ) → length fields ≤ i → field i (tuple_of fields bytes) ≡ value.Long (pos 0)
field_past [] bytes i past = refl
field_past (f ∷ fs) bytes zero past = absurd (omega arith)
field_past (f ∷ fs) bytes (suc i) past = field_past fs (drop (taken f bytes) bytes) i (omega arith)

-- so two records are equal there
pub past_equal : (fields schema : Fields) (a b : List ℕ) (i : ℕ) → fields ≡ schema → length fields ≤ i
    → Equal ≡ value_cmp (field i (tuple_of schema a)) (field i (tuple_of schema b))
past_equal fields schema a b i same past =
    let low : length schema ≤ i = omega (arith, ap length same) in
    let left : Value = field i (tuple_of schema a) in
    sym (ap (value_cmp left) (field_past schema b i low ∙ sym (field_past schema a i low)) ∙ tied_itself value_cmp_total left)

-- the value of a field whose content lies at a place of a record
abbrev pub value_at : FieldType → Place → List ℕ → Value
value_at type.Long place bytes = value.Long (cast_signed w64 (from_be_bytes w64 (take 8 (drop place.start bytes))))
value_at type.Bool place bytes = value.Bool (not (slice_index bytes place.start == 0))
value_at (type.Str bound) place bytes = value.Str (take place.len (drop place.start bytes))

-- what lies at a field's place is the value that the bytes from there are read as
place_value : (f : FieldType) (start : ℕ) (bytes : List ℕ) → value_at f (place_in f start bytes) bytes ≡ first_value f (drop start bytes)
place_value type.Long start bytes = refl
place_value type.Bool start bytes = ap (λ (n : ℕ). value.Bool (not (n == 0))) (first_at start bytes)
  where
    first_at : (k : ℕ) (xs : List ℕ) → slice_index xs k ≡ slice_index (drop k xs) 0
    first_at zero [] = refl
    first_at zero (x ∷ xs) = refl
    first_at (suc k) [] = refl
    first_at (suc k) (x ∷ xs) = first_at k xs
place_value (type.Str bound) start bytes =
    ap (λ (xs : List ℕ). value.Str (take (from_be_bytes w16 (take 2 (drop start bytes))) xs)) (sym (drop-drop 2 start bytes))

pub field_value : (fields : Fields) (bytes : List ℕ) (k : ℕ) (place : Place) (f : FieldType) → k < length fields
    → slice_index_or fields k type.Long ≡ f → place ≡ place_of fields bytes k
    → value_at f place bytes ≡ field k (tuple_of fields bytes)
field_value fields bytes k place f low kind found =
    let start : ℕ = start_of (take k fields) bytes in
    ap (λ (g : FieldType). value_at g place bytes) (sym kind)
    ∙ ap (λ (p : Place). value_at (slice_index_or fields k type.Long) p bytes) found
    ∙ place_value (slice_index_or fields k type.Long) start bytes
    ∙ sym (tuple_at fields bytes k type.Long low)

-- the same where the fields are those of a schema
pub field_is : (fields schema : Fields) (bytes : List ℕ) (k : ℕ) (place : Place) (f : FieldType) → fields ≡ schema → k < length fields
    → slice_index_or fields k type.Long ≡ f → place ≡ place_of schema bytes k
    → value_at f place bytes ≡ field k (tuple_of schema bytes)
field_is fields schema bytes k place f same low kind found =
    field_value schema bytes k place f (omega (arith, ap length same)) (ap (λ (fs : Fields). slice_index_or fs k type.Long) (sym same) ∙ kind) found

-- two records of one schema are compared by a field where it lies
pub fields_compared : (fields schema : Fields) (a b : List ℕ) (k : ℕ) (left right : Place) (f : FieldType) → fields ≡ schema → k < length fields
    → slice_index_or fields k type.Long ≡ f → left ≡ place_of schema a k → right ≡ place_of schema b k
    → value_cmp (value_at f left a) (value_at f right b) ≡ value_cmp (field k (tuple_of schema a)) (field k (tuple_of schema b))
fields_compared fields schema a b k left right f same low kind found other =
    ap (λ (v : Value). value_cmp v (value_at f right b)) (field_is fields schema a k left f same low kind found)
    ∙ ap (value_cmp (field k (tuple_of schema a))) (field_is fields schema b k right f same low kind other)

-- ---- all fields

-- the next field decides, or else those behind it
whole_more : (n : ℕ) (t u : Tuple) → n < length t → n < length u
    → tuple_cmp (drop n t) (drop n u) ≡ ordering_then (value_cmp (field n t) (field n u)) (tuple_cmp (drop (n + 1) t) (drop (n + 1) u))
whole_more n [] u left right = absurd (omega arith)
whole_more n (v ∷ t) [] left right = absurd (omega arith)
whole_more zero (v ∷ t) (w ∷ u) left right = refl
whole_more (suc n) (v ∷ t) (w ∷ u) left right =
    let next : suc (n + 1) ≡ suc n + 1 = omega arith in
    whole_more n t u (omega arith) (omega arith)
    ∙ ap (λ (k : ℕ). ordering_then (value_cmp (field n t) (field n u)) (tuple_cmp (drop k (v ∷ t)) (drop k (w ∷ u)))) next

-- fields that are equal are passed over
pub whole_equal : (n : ℕ) (t u : Tuple) (o : Ordering) → n < length t → n < length u → o ≡ value_cmp (field n t) (field n u) → o ≡ Equal
    → tuple_cmp (drop n t) (drop n u) ≡ tuple_cmp (drop (n + 1) t) (drop (n + 1) u)
whole_equal n t u o left right told same =
    whole_more n t u left right
    ∙ ap (λ (p : Ordering). ordering_then p (tuple_cmp (drop (n + 1) t) (drop (n + 1) u))) (sym told ∙ same)

-- a field that differs decides
pub whole_differs : (n : ℕ) (t u : Tuple) (o : Ordering) → n < length t → n < length u → o ≡ value_cmp (field n t) (field n u) → o ≢ Equal
    → o ≡ tuple_cmp (drop n t) (drop n u)
whole_differs n t u o left right told differ =
    go o differ ∙ ap (λ (p : Ordering). ordering_then p (tuple_cmp (drop (n + 1) t) (drop (n + 1) u))) told ∙ sym (whole_more n t u left right)
  where
    go : (p : Ordering) → p ≢ Equal → p ≡ ordering_then p (tuple_cmp (drop (n + 1) t) (drop (n + 1) u))
    go Less other = refl
    go Equal other = absurd (other refl)
    go Greater other = refl

-- where no field is left the tuples are equal
pub whole_done : (n : ℕ) (t u : Tuple) → length t ≤ n → length u ≤ n → Equal ≡ tuple_cmp (drop n t) (drop n u)
whole_done n t u left right =
    sym (ap (λ (xs : Tuple). tuple_cmp xs (drop n u)) (drop_all n t left) ∙ ap (tuple_cmp []) (drop_all n u right))

-- the forms of the fields up to a place and of one more
pub whole_form_more : (n : ℕ) (t : Tuple) → n < length t → flat_map normal_form (take (n + 1) t) ≡ flat_map normal_form (take n t) ++ normal_form (field n t)
whole_form_more n t low = forms_more normal_form t n (value.Long (pos 0)) low

-- ---- what was read

-- two Longs that were read are compared as numbers
pub longs_compared : (o : Ordering) (m n p q : ℤ) → FitsSigned w64 m → FitsSigned w64 n
    → o ≡ int_cmp (cast_signed w64 (cast_unsigned w64 m)) (cast_signed w64 (cast_unsigned w64 n)) → m ≡ p → n ≡ q → o ≡ int_cmp p q
longs_compared o m n p q left right told one other =
    told
    ∙ ap (λ (z : ℤ). int_cmp z (cast_signed w64 (cast_unsigned w64 n))) (to_z-of_z left ∙ one)
    ∙ ap (int_cmp p) (to_z-of_z right ∙ other)

-- where no field is left the forms of all were written
pub whole_form_all : (whole : Bool) (n : ℕ) (t : Tuple) → whole ≡ true → length t ≤ n → flat_map normal_form (take n t) ≡ whole_form whole t
whole_form_all whole n t wanted past =
    ap (flat_map normal_form) (take_all n t past) ∙ sym (cond-true whole (flat_map normal_form t) [] wanted)
  where
    take_all : (k : ℕ) (xs : Tuple) → length xs ≤ k → take k xs ≡ xs
    take_all zero [] low = refl
    take_all zero (x ∷ xs) low = absurd (omega arith)
    take_all (suc k) [] low = refl
    take_all (suc k) (x ∷ xs) low = ap (λ (ys : Tuple). x ∷ ys) (take_all k xs (omega arith))
