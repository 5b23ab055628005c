-- Steps of reading the lines of an input, and the fields of a line.
use Rattle.std.proofs.Common.{◌≡◌, ℕ, ◌+◌, ◌<◌, ◌==◌, nat_le, Bool, true, false, ◌&&◌, IsTrue, if◌then◌else◌, List, [], ◌∷◌, ◌++◌, length, drop, get_or, Option, Some, None, refl, ap, ◌∙◌, arith}
use Rattle.std.specs.List.{list_all}
use Rattle.std.proofs.lemmas.List.{drop_more, drop_all}
use Rattle.std.proofs.lemmas.List.Elements.{All-get_or}
use Rattle.std.proofs.lemmas.List.Sums.{AllPass-from_list_all}
use Rattle.std.proofs.lemmas.List.Splits.{length-slice_split}
use Rattle.flow_types.specs.declared.field_type.FieldType.{FieldType}
use Rattle.flow_types.specs.Types.{Fields, is_bounded, fits}
use Rattle.flow_types.specs.Tuples.{Tuple}
use Rattle.delim_io.proofs.FieldLemmas.{tuple_fits}
use Rattle.delim_io.specs.Fields.{first_and_others, field_value, tuple_of}
use Rattle.delim_io.specs.Input.{input_limit, is_plain_byte, is_plain_line, parts_at, tuple_of_line, tuples_of_parts, rows_of}

-- some elements, and those that follow, where these are there
abbrev pub onto : {X : Type 0} → List X → Option (List X) → Option (List X)
onto front None = None
onto front (Some back) = Some (front ++ back)

pub none_first : {X : Type 0} (o : Option (List X)) → first_and_others None o ≡ None
none_first None = refl
none_first (Some back) = refl

pub none_after : {X : Type 0} (o : Option X) → first_and_others o None ≡ None
none_after None = refl
none_after (Some x) = refl

-- the first `i` fields of a line have these values, and `rest` is what is left of the line
abbrev pub Taken : Fields → ℕ → List ℕ → Tuple → ℕ → List ℕ → Type 0
Taken fields delimiter line values i rest =
    tuple_of fields (parts_at delimiter line) ≡ onto values (tuple_of (drop i fields) (parts_at delimiter rest))

-- the lines before `rest` have these tuples
abbrev pub Passed : Fields → ℕ → List ℕ → List Tuple → List ℕ → Type 0
Passed fields delimiter bytes tuples rest =
    tuples_of_parts fields delimiter (parts_at 10 bytes) ≡ onto tuples (tuples_of_parts fields delimiter (parts_at 10 rest))

-- a line with a wrong field has no tuple
pub no_tuple : (fields : Fields) (delimiter : ℕ) (line : List ℕ) → tuple_of fields (parts_at delimiter line) ≡ None → tuple_of_line fields delimiter line ≡ None
no_tuple fields delimiter line e = go (is_plain_line line)
  where
    go : (b : Bool) → (if b then tuple_of fields (parts_at delimiter line) else None) ≡ None
    go true = e
    go false = refl

-- no field takes no text
no_fields : (texts : List (List ℕ)) → 0 < length texts → tuple_of [] texts ≡ None
no_fields [] some = absurd (omega arith)
no_fields (text ∷ texts) some = refl

module _ (fields : Fields) (delimiter : ℕ) (line : List ℕ) (values : Tuple) (i : ℕ) (rest : List ℕ) (taken : Taken fields delimiter line values i rest) where
  from_rest : tuple_of (drop i fields) (parts_at delimiter rest) ≡ None → tuple_of_line fields delimiter line ≡ None
  from_rest e = no_tuple fields delimiter line (taken ∙ ap (onto values) e)

  -- no delimiter is left, and more than one field is
  pub line_short : (f : FieldType) → i + 1 < length fields → parts_at delimiter rest ≡ rest ∷ [] → tuple_of_line fields delimiter line ≡ None
  line_short f more whole =
      let here = drop_more fields i f (omega arith) in
      let next = drop_more fields (i + 1) f more in
      from_rest (rw (here, next, whole) (none_after (field_value (get_or fields i f) rest)))

  -- the last field is reached, and a delimiter is left
  pub line_long : (f : FieldType) (text after : List ℕ) → i + 1 ≡ length fields → parts_at delimiter rest ≡ text ∷ parts_at delimiter after → tuple_of_line fields delimiter line ≡ None
  line_long f text after last cut =
      let here = drop_more fields i f (omega arith) in
      let end : drop (i + 1) fields ≡ [] = drop_all (i + 1) fields (omega arith) in
      from_rest (rw (here, end, cut, no_fields (parts_at delimiter after) (omega (arith, length-slice_split (λ b. b == delimiter) after))) (none_after (field_value (get_or fields i f) text)))

  -- the text of a field that isn't the last has no value
  pub field_refused : (f : FieldType) (text after : List ℕ) → i < length fields → parts_at delimiter rest ≡ text ∷ parts_at delimiter after → field_value (get_or fields i f) text ≡ None → tuple_of_line fields delimiter line ≡ None
  field_refused f text after within cut refused =
      let here = drop_more fields i f within in
      from_rest (rw (here, cut, refused) (none_first (tuple_of (drop (i + 1) fields) (parts_at delimiter after))))

-- the field at a place of a schema
pub bounded_at : (fields : Fields) (i : ℕ) (f : FieldType) → IsTrue (list_all is_bounded fields) → i < length fields → IsTrue (is_bounded (get_or fields i f))
bounded_at fields i f all within = All-get_or (λ x. is_bounded x ≡ true) fields i f within (AllPass-from_list_all is_bounded fields all)

-- a line and the parts behind it, of which there is at least one
pub lines_more : (fields : Fields) (delimiter : ℕ) (line : List ℕ) (parts : List (List ℕ)) → 0 < length parts → tuples_of_parts fields delimiter (line ∷ parts) ≡ first_and_others (tuple_of_line fields delimiter line) (tuples_of_parts fields delimiter parts)
lines_more fields delimiter line [] some = absurd (omega arith)
lines_more fields delimiter line (next ∷ parts) some = refl

first_line : (fields : Fields) (delimiter : ℕ) (rest line after : List ℕ) → parts_at 10 rest ≡ line ∷ parts_at 10 after → tuples_of_parts fields delimiter (parts_at 10 rest) ≡ first_and_others (tuple_of_line fields delimiter line) (tuples_of_parts fields delimiter (parts_at 10 after))
first_line fields delimiter rest line after cut =
    ap (tuples_of_parts fields delimiter) cut ∙ lines_more fields delimiter line (parts_at 10 after) (omega (arith, length-slice_split (λ b. b == 10) after))

-- a text whose parts have no tuples has no rows
no_rows : (fields : Fields) (delimiter : ℕ) (bytes : List ℕ) → tuples_of_parts fields delimiter (parts_at 10 bytes) ≡ None → rows_of fields delimiter bytes ≡ None
no_rows fields delimiter bytes e = go (nat_le (length bytes) input_limit && list_all is_plain_byte bytes)
  where
    go : (b : Bool) → (if b then tuples_of_parts fields delimiter (parts_at 10 bytes) else None) ≡ None
    go true = e
    go false = refl

module _ (fields : Fields) (delimiter : ℕ) (bytes : List ℕ) (tuples : List Tuple) (rest : List ℕ) (passed : Passed fields delimiter bytes tuples rest) where
  -- a line has no tuple
  pub line_refused : (line after : List ℕ) → parts_at 10 rest ≡ line ∷ parts_at 10 after → tuple_of_line fields delimiter line ≡ None → rows_of fields delimiter bytes ≡ None
  line_refused line after cut refused =
      let left : tuples_of_parts fields delimiter (parts_at 10 rest) ≡ None =
      rw (first_line fields delimiter rest line after cut, refused) (none_first (tuples_of_parts fields delimiter (parts_at 10 after))) in
      no_rows fields delimiter bytes (passed ∙ ap (onto tuples) left)

-- the tuple of a line fits the fields
pub line_fits : (fields : Fields) (delimiter : ℕ) (line : List ℕ) (t : Tuple) → tuple_of_line fields delimiter line ≡ Some t → IsTrue (fits fields t)
line_fits fields delimiter line t e = by (is_plain_line line) e
  where
    by : (b : Bool) → (if b then tuple_of fields (parts_at delimiter line) else None) ≡ Some t → IsTrue (fits fields t)
    by true e = tuple_fits fields (parts_at delimiter line) t e
    by false e = cc
