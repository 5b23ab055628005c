-- The record of a line's row, written field by field.
use Rattle.std.proofs.Common.{◌≡◌, ℕ, ◌+◌, ◌<◌, ◌≤◌, IsTrue, if◌then◌else◌, List, [], ◌∷◌, ◌++◌, length, take, drop, get_or, MatchOption, Option, Some, None, refl, sym, ap, ◌∙◌, subst, arith, append_assoc, append-nil, length-append}
use Rattle.std.proofs.lemmas.List.{drop_more, drop_all, drop-drop, take_at, drop_at}
use Rattle.std.proofs.lemmas.List.Concat.{flat_map-append}
use Rattle.std.proofs.lemmas.List.Sums.{sum_by-cons}
use Rattle.flow_types.specs.declared.field_type.FieldType.{FieldType}
use Rattle.flow_types.specs.declared.field_type.FieldType.TheVariants as type
use Rattle.flow_types.specs.declared.value.Value.{Value}
use Rattle.flow_types.specs.Limits.{record_limit}
use Rattle.flow_types.specs.Records.{form, size, value_form}
use Rattle.flow_types.specs.Tuples.{Tuple}
use Rattle.flow_types.specs.Types.{Fields, is_schema, width, widest}
use Rattle.delim_io.specs.Fields.{first_and_others, field_value, tuple_of}
use Rattle.delim_io.specs.Input.{is_plain_line, parts_at, tuple_of_line}
use Rattle.delim_io.proofs.LineLemmas.{Taken, no_tuple, none_first, onto}

-- A schema has a field.
pub some_field : (fields : Fields) → IsTrue (is_schema fields) → 0 < length fields
some_field [] is = let wrong = is in cc
some_field (f ∷ fields) is = omega arith

-- The first fields of a line have values whose forms stand at the front, and the widths of the others have room behind them.
pub record IsBuilt (fields : Fields) (delimiter : ℕ) (line : List ℕ) (i : ℕ) (rest old now : List ℕ) (end : ℕ) : Type 0 where
  pub values : Tuple
  pub taken : Taken fields delimiter line values i rest
  pub bytes : now ≡ form values ++ drop end old
  pub end_is : end ≡ size values
  pub room : end + widest (drop i fields) ≤ record_limit

pub nothing_built : (fields : Fields) (delimiter : ℕ) (line old : List ℕ) → widest fields ≤ record_limit → IsBuilt fields delimiter line 0 line old old 0
nothing_built fields delimiter line old small = record {
  values = [];
  taken = onto_none (tuple_of fields (parts_at delimiter line));
  bytes = refl;
  end_is = refl;
  room = omega (arith, small);
}
  where
    onto_none : (o : Option Tuple) → o ≡ onto [] o
    onto_none None = refl
    onto_none (Some t) = refl

-- the forms of the values, with one more
form_more : (values : Tuple) (v : Value) → form (values ++ v ∷ []) ≡ form values ++ value_form v
form_more values v = flat_map-append value_form values (v ∷ []) ∙ ap (λ xs. form values ++ xs) (append-nil (value_form v))

bytes_more : (values : Tuple) (v : Value) (old now new : List ℕ) (end behind : ℕ) → end ≡ size values → behind ≡ end + length (value_form v)
    → now ≡ form values ++ drop end old → new ≡ take end now ++ value_form v ++ drop behind now → new ≡ form (values ++ v ∷ []) ++ drop behind old
bytes_more values v old now new end behind is more before written =
    let front : take end now ≡ form values = ap (take end) before ∙ take_at (form values) (drop end old) end (sym is) in
    let back : drop behind now ≡ drop behind old = later in
    written ∙ ap (λ xs. xs ++ value_form v ++ drop behind now) front ∙ ap (λ ys. form values ++ value_form v ++ ys) back
    ∙ ap (λ xs. xs ++ drop behind old) (sym (form_more values v))
  where
    drop_twice : (n m : ℕ) (xs : List ℕ) → drop m (drop n xs) ≡ drop (n + m) xs
    drop_twice n m xs = drop-drop m n xs

    later : drop behind now ≡ drop behind old
    later =
        let at : drop end now ≡ drop end old = ap (drop end) before ∙ drop_at (form values) (drop end old) end (sym is) in
        ap (λ k. drop k now) more ∙ sym (drop_twice end (length (value_form v)) now) ∙ ap (drop (length (value_form v))) at
        ∙ drop_twice end (length (value_form v)) old ∙ ap (λ k. drop k old) (sym more)

size_more : (values : Tuple) (v : Value) → size (values ++ v ∷ []) ≡ size values + length (value_form v)
size_more values v = ap length (form_more values v) ∙ length-append (form values) (value_form v)

-- one value more
pub built_more : (fields : Fields) (delimiter : ℕ) (line : List ℕ) (i : ℕ) (rest text after old now new : List ℕ) (end behind : ℕ) (f : FieldType) (v : Value) → i < length fields
    → parts_at delimiter rest ≡ text ∷ parts_at delimiter after → field_value (get_or fields i f) text ≡ Some v
    → behind ≡ end + length (value_form v) → behind ≤ end + width (get_or fields i f) → new ≡ take end now ++ value_form v ++ drop behind now
    → IsBuilt fields delimiter line i rest old now end → IsBuilt fields delimiter line (i + 1) after old new behind
built_more fields delimiter line i rest text after old now new end behind f v within cut value more narrow written built = record {
  values = built.values ++ v ∷ [];
  taken = built.taken ∙ ap (onto built.values) left ∙ onto_more built.values v (tuple_of (drop (i + 1) fields) (parts_at delimiter after));
  bytes = bytes_more built.values v old now new end behind built.end_is more built.bytes written;
  end_is = omega (arith, more, built.end_is, size_more built.values v);
  room = omega (arith, built.room, narrow, ap widest here, sum_by-cons width (get_or fields i f) (drop (i + 1) fields));
}
  where
    here : drop i fields ≡ get_or fields i f ∷ drop (i + 1) fields
    here = drop_more fields i f within

    left : tuple_of (drop i fields) (parts_at delimiter rest) ≡ first_and_others (Some v) (tuple_of (drop (i + 1) fields) (parts_at delimiter after))
    left = ap (λ fs. tuple_of fs (parts_at delimiter rest)) here ∙ ap (tuple_of (get_or fields i f ∷ drop (i + 1) fields)) cut
        ∙ ap (λ o. first_and_others o (tuple_of (drop (i + 1) fields) (parts_at delimiter after))) value

    onto_more : (values : Tuple) (v : Value) (o : Option Tuple) → onto values (first_and_others (Some v) o) ≡ onto (values ++ v ∷ []) o
    onto_more values v None = refl
    onto_more values v (Some t) = ap Some (sym (append_assoc values (v ∷ []) t))

-- The field at a place has room behind what was written.
pub room_here : (fields : Fields) (delimiter : ℕ) (line : List ℕ) (i : ℕ) (rest old now : List ℕ) (end : ℕ) (f : FieldType) → i < length fields → IsBuilt fields delimiter line i rest old now end → end + width (get_or fields i f) ≤ record_limit
room_here fields delimiter line i rest old now end f within built =
    omega (arith, built.room, ap widest (drop_more fields i f within), sum_by-cons width (get_or fields i f) (drop (i + 1) fields))

-- The whole of a plain line.
pub record IsLineRecord (fields : Fields) (delimiter : ℕ) (line old new : List ℕ) (end : ℕ) : Type 0 where
  pub tuple : Tuple
  pub is : tuple_of_line fields delimiter line ≡ Some tuple
  pub size_is : end ≡ size tuple
  pub bytes : new ≡ form tuple ++ drop end old

pub built_all : (fields : Fields) (delimiter : ℕ) (line : List ℕ) (i : ℕ) (rest old now new : List ℕ) (end behind : ℕ) (f : FieldType) (v : Value) → IsTrue (is_plain_line line) → i + 1 ≡ length fields
    → parts_at delimiter rest ≡ rest ∷ [] → field_value (get_or fields i f) rest ≡ Some v
    → behind ≡ end + length (value_form v) → new ≡ take end now ++ value_form v ++ drop behind now
    → IsBuilt fields delimiter line i rest old now end → IsLineRecord fields delimiter line old new behind
built_all fields delimiter line i rest old now new end behind f v plain last whole value more written built = record {
  tuple = built.values ++ v ∷ [];
  is = ap (λ b. if b then tuple_of fields (parts_at delimiter line) else None) plain ∙ built.taken ∙ ap (onto built.values) left;
  size_is = omega (arith, more, built.end_is, size_more built.values v);
  bytes = bytes_more built.values v old now new end behind built.end_is more built.bytes written;
}
  where
    left : tuple_of (drop i fields) (parts_at delimiter rest) ≡ Some (v ∷ [])
    left = ap (λ fs. tuple_of fs (parts_at delimiter rest)) (drop_more fields i f (omega (arith, last))) ∙ ap (tuple_of (get_or fields i f ∷ drop (i + 1) fields)) whole
        ∙ ap (λ fs. first_and_others (field_value (get_or fields i f) rest) (tuple_of fs [])) (drop_all (i + 1) fields (omega (arith, last)))
        ∙ ap (λ o. first_and_others o (Some [])) value

pub last_refused : (fields : Fields) (delimiter : ℕ) (line : List ℕ) (i : ℕ) (rest old now : List ℕ) (end : ℕ) (f : FieldType) → i + 1 ≡ length fields → parts_at delimiter rest ≡ rest ∷ [] → field_value (get_or fields i f) rest ≡ None
    → IsBuilt fields delimiter line i rest old now end → tuple_of_line fields delimiter line ≡ None
last_refused fields delimiter line i rest old now end f last whole refused built =
    no_tuple fields delimiter line (built.taken ∙ ap (onto built.values)
    (ap (λ fs. tuple_of fs (parts_at delimiter rest)) (drop_more fields i f (omega (arith, last))) ∙ ap (tuple_of (get_or fields i f ∷ drop (i + 1) fields)) whole
    ∙ ap (λ o. first_and_others o (tuple_of (drop (i + 1) fields) [])) refused ∙ none_first (tuple_of (drop (i + 1) fields) [])))

-- The last field was read, or has no value.
pub built_last : (schema fields : Fields) (delimiter : ℕ) (line : List ℕ) (i : ℕ) (rest old now new : List ℕ) (end : ℕ) (answer : Option ℕ) → fields ≡ schema → IsTrue (is_plain_line line) → i + 1 ≡ length fields
    → parts_at delimiter rest ≡ rest ∷ [] → IsBuilt schema delimiter line i rest old now end
    → MatchOption answer (field_value (get_or fields i type.Long) rest ≡ None) (λ behind. (v : Value) × (field_value (get_or fields i type.Long) rest ≡ Some v) × (behind ≡ end + length (value_form v)) × (behind ≤ end + width (get_or fields i type.Long)) × (new ≡ take end now ++ value_form v ++ drop behind now))
    → MatchOption answer (tuple_of_line schema delimiter line ≡ None) (λ behind. (t : Tuple) × (tuple_of_line schema delimiter line ≡ Some t) × (behind ≡ size t) × (new ≡ form t ++ drop behind old))
built_last schema fields delimiter line i rest old now new end None same plain last whole built refused =
    last_refused schema delimiter line i rest old now end type.Long (last ∙ ap length same) whole (subst (λ fs. field_value (get_or fs i type.Long) rest ≡ None) same refused) built
built_last schema fields delimiter line i rest old now new end (Some behind) same plain last whole built (v, value, more, narrow, written) =
    let all = built_all schema delimiter line i rest old now new end behind type.Long v plain (last ∙ ap length same) whole (subst (λ fs. field_value (get_or fs i type.Long) rest ≡ Some v) same value) more written built in
    (all.tuple, all.is, all.size_is, all.bytes)
