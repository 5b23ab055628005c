-- Columns as a record.
use Rattle.std.proofs.Common.{◌≡◌, ℕ, zero, suc, ◌+◌, ◌-◌, ◌≤◌, ◌<◌, true, ◌&&◌, List, [], ◌∷◌, ◌++◌, length, take, drop, map, refl, sym, ap, ◌∙◌, arith, Option, Some, None, is_some, nat_le, IsTrue, length-append, append_assoc, append-nil, get_or, length-drop}
use Rattle.std.specs.List.{list_all, AllZip}
use Rattle.std.specs.Int.{to_be_bytes, w16}
use Rattle.std.proofs.lemmas.Bool.{leb-true}
use Rattle.std.proofs.lemmas.List.{take_rest, take_at, drop_at, take-append-le, length-take-le, take_more}
use Rattle.std.proofs.lemmas.List.Sums.{sum_by-cons}
use Rattle.std.proofs.Math.Seq.{take-add}
use Rattle.flow_types.specs.Limits.{text_limit, field_limit, record_limit}
use Rattle.flow_types.specs.declared.value.Value.{Value}
use Rattle.flow_types.specs.declared.value.Value.TheVariants as value
use Rattle.flow_types.specs.declared.field_type.FieldType.{FieldType}
use Rattle.flow_types.specs.declared.field_type.FieldType.TheVariants as type
use Rattle.flow_types.specs.declared.expr.Expr.{Expr}
use Rattle.flow_types.specs.Values.{bytes_of, flag_of}
use Rattle.flow_types.specs.Tuples.{Tuple}
use Rattle.flow_types.specs.Types.{Fields, fits, fits_field, width, widest, is_schema, is_bounded}
use Rattle.flow_types.specs.Records.{form, value_form}
use Rattle.flow_types.specs.Expressions.{val}
use Rattle.flow_types.specs.ExprTypes.{type_of, typing_of, is_limited}
use Rattle.flow_types.proofs.ValueLemmas.{both_true, both_pass}
use Rattle.flow_types.proofs.TypeLaws.{value_fits}
use Rattle.flow_types.proofs.ColumnLaws.{tuple-columns}
use Rattle.expr_core.specs.Laws.{ColumnsOfASchema}
use Rattle.record_codec.proofs.RecordLemmas.{form_width}
use Rattle.expr_core.specs.declared.seen.Seen.{Seen}
use Rattle.expr_core.specs.declared.seen.Seen.TheVariants as seen
use Rattle.expr_core.specs.declared.seen.TextPlace.{TextPlace}
use Rattle.expr_core.specs.Places.{value_in, text_bytes, origin_bytes, is_inside}
use Rattle.expr_core.specs.Needs.{is_typed, are_typed, width_of_type, widest_of}
use Rattle.span_bytes.proofs.CompareLemmas.{take_reaches}
use Rattle.expr_core.proofs.TextLemmas.{text_len}

-- a text's length and its bytes were written behind one another
pub text_written : (bytes room new post out part : List ℕ) (s : Seen) (text : TextPlace) (end n : ℕ) → s ≡ seen.Str text
    → IsTrue (is_inside bytes (drop 2 room) s) → record_limit ≤ length room
    → length (bytes_of (value_in bytes (drop 2 room) s)) ≤ text_limit
    → length new ≡ length (take (length room - 2) (drop 2 room))
    → take text.len new ≡ text_bytes bytes (take (length room - 2) (drop 2 room)) text
    → part ≡ to_be_bytes w16 text.len → end ≡ 0 + length part → n ≡ text.len
    → out ≡ take 0 (take 2 room ++ (new ++ post)) ++ part ++ drop end (take 2 room ++ (new ++ post))
    → take (end + n) out ≡ value_form (value_in bytes (drop 2 room) s)
text_written bytes room new post out part s text end n is lies space short room_is brought length_is at same written =
    let some : 2 ≤ length room = omega (arith, space) in
    let inside : nat_le text.len (length (origin_bytes bytes (drop 2 room) text.origin)) ≡ true = sym (ap (is_inside bytes (drop 2 room)) is) ∙ lies in
    let exact : end ≡ length part = omega (arith, at) in
    let two : end ≡ 2 = omega (arith, at, ap length length_is) in
    let behind : drop end (take 2 room ++ (new ++ post)) ≡ new ++ post =
    ap (λ (k : ℕ). drop k (take 2 room ++ (new ++ post))) two ∙ drop_at (take 2 room) (new ++ post) 2 (length-take-le 2 room some) in
    let xs : List ℕ = text_bytes bytes (drop 2 room) text in
    let many : length xs ≡ text.len = text_len text.len (origin_bytes bytes (drop 2 room) text.origin) inside in
    let low : length xs ≤ text_limit = omega (arith, short, ap (λ (z : Seen). length (bytes_of (value_in bytes (drop 2 room) z))) is) in
    let rest_long : length (take (length room - 2) (drop 2 room)) ≡ length room - 2 = ap length (take_rest room 2) ∙ length-drop 2 room in
    let long : text.len ≤ length new = omega (arith, many, low, room_is, rest_long, space) in
    let text_is : take n (new ++ post) ≡ xs =
    ap (λ (k : ℕ). take k (new ++ post)) same ∙ take-append-le text.len new post long ∙ brought
    ∙ ap (λ (rest : List ℕ). text_bytes bytes rest text) (take_rest room 2) in
    ap (take (end + n)) (written ∙ ap (λ (rest : List ℕ). part ++ rest) behind)
    ∙ take-add end n (part ++ (new ++ post))
    ∙ ap (λ (front : List ℕ). front ++ take n (drop end (part ++ (new ++ post)))) (take_at part (new ++ post) end (sym exact))
    ∙ ap (λ (rest : List ℕ). part ++ take n rest) (drop_at part (new ++ post) end (sym exact))
    ∙ ap (λ (rest : List ℕ). part ++ rest) text_is
    ∙ ap (λ (front : List ℕ). front ++ xs) (length_is ∙ ap (to_be_bytes w16) (sym many))
    ∙ sym (ap (λ (z : Seen). value_form (value_in bytes (drop 2 room) z)) is)

module _ (fields : Fields) (t : Tuple) (row : IsTrue (fits fields t)) where
  wide_of : (v : Value) (o : Option FieldType) → is_some o ≡ true → ((f : FieldType) → o ≡ Some f → fits_field f v ≡ true)
      → length (value_form v) ≤ width_of_type o
  wide_of v None some fit = cc
  wide_of v (Some f) some fit = form_width f v (fit f refl)

  -- a column's form is no wider than its type
  pub wide_value : (e : Expr) → IsTrue (is_typed fields e) → length (value_form (val t e)) ≤ width_of_type (type_of fields e)
  wide_value e h =
      wide_of (val t e) (type_of fields e) (both_true (is_some (type_of fields e)) (typing_of fields e).narrow h).0 (value_fits fields t row e)

  -- the first columns take no more bytes than the widest record
  pub front_wide : (columns : List Expr) (i : ℕ) → IsTrue (are_typed fields columns)
      → length (form (map (λ e. val t e) (take i columns))) ≤ widest_of fields columns
  front_wide [] zero typed = omega arith
  front_wide [] (suc i) typed = omega arith
  front_wide (e ∷ es) zero typed = omega arith
  front_wide (e ∷ es) (suc i) typed =
      let parts = both_true (is_typed fields e && is_limited e) (are_typed fields es) typed in
      let first = both_true (is_typed fields e) (is_limited e) parts.0 in
      let long : length (value_form (val t e) ++ form (map (λ e. val t e) (take i es))) ≡ length (value_form (val t e)) + length (form (map (λ e. val t e) (take i es))) =
      length-append (value_form (val t e)) (form (map (λ e. val t e) (take i es))) in
      let wide : widest_of fields (e ∷ es) ≡ width_of_type (type_of fields e) + widest_of fields es =
      sum_by-cons (λ e. width_of_type (type_of fields e)) e es in
      omega (arith, long, wide, wide_value e first.0, front_wide es i parts.1)

form_append : (t u : Tuple) → form (t ++ u) ≡ form t ++ form u
form_append [] u = refl
form_append (v ∷ t) u = ap (λ (xs : List ℕ). value_form v ++ xs) (form_append t u) ∙ sym (append_assoc (value_form v) (form t) (form u))

map_append : (t : Tuple) (xs ys : List Expr) → map (λ e. val t e) (xs ++ ys) ≡ map (λ e. val t e) xs ++ map (λ e. val t e) ys
map_append t [] ys = refl
map_append t (x ∷ xs) ys = ap (λ (vs : Tuple). val t x ∷ vs) (map_append t xs ys)

-- The first columns' forms stand at the front of the room.
pub record Written (fields : Fields) (t : Tuple) (columns : List Expr) (i : ℕ) (room : List ℕ) (start : ℕ) : Type 0 where
  pub place : start ≡ length (form (map (λ e. val t e) (take i columns)))
  pub bytes : take start room ≡ form (map (λ e. val t e) (take i columns))
  pub low : start ≤ record_limit

-- one column more
pub column_written : (fields : Fields) (t : Tuple) (columns : List Expr) (i : ℕ) (e d : Expr) (room new post : List ℕ) (start count : ℕ)
    → IsTrue (fits fields t) → IsTrue (are_typed fields columns) → widest_of fields columns ≤ record_limit
    → i < length columns → e ≡ get_or columns i d → Written fields t columns i room start
    → start ≤ length room
    → take count new ≡ value_form (val t e) → count ≡ length (value_form (val t e))
    → Written fields t columns (i + 1) (take start room ++ (new ++ post)) (start + count)
column_written fields t columns i e d room new post start count row typed wide inside is before low form_is count_is =
    let long : count ≤ length new = take_reaches count new (count_is ∙ sym (ap length form_is)) in
    let v : Value = val t e in
    let front : List ℕ = form (map (λ e. val t e) (take i columns)) in
    let next : take (i + 1) columns ≡ take i columns ++ e ∷ [] =
    take_more columns i d inside ∙ ap (λ (x : Expr). take i columns ++ x ∷ []) (sym is) in
    let all : form (map (λ e. val t e) (take (i + 1) columns)) ≡ front ++ value_form v =
    ap (λ (es : List Expr). form (map (λ e. val t e) es)) next
    ∙ ap form (map_append t (take i columns) (e ∷ []))
    ∙ form_append (map (λ e. val t e) (take i columns)) (v ∷ [])
    ∙ ap (λ (xs : List ℕ). front ++ xs) (append-nil (value_form v)) in
    let place : start + count ≡ length (form (map (λ e. val t e) (take (i + 1) columns))) =
    omega (arith, ap length all, length-append front (value_form v), before.place, count_is) in
    record {
      place = place;
      bytes = take-add start count (take start room ++ (new ++ post))
          ∙ ap (λ (xs : List ℕ). xs ++ take count (drop start (take start room ++ (new ++ post)))) (take_at (take start room) (new ++ post) start (length-take-le start room low) ∙ before.bytes)
          ∙ ap (λ (xs : List ℕ). front ++ take count xs) (drop_at (take start room) (new ++ post) start (length-take-le start room low))
          ∙ ap (λ (xs : List ℕ). front ++ xs) (take-append-le count new post long ∙ form_is)
          ∙ sym all;
      low = omega (arith, place, front_wide fields t row columns (i + 1) typed, wide);
    }

-- a value of type Bool is that of its truth
pub bool_value : (v : Value) → fits_field type.Bool v ≡ true → v ≡ value.Bool (flag_of v)
bool_value (value.Long n) h = cc
bool_value (value.Bool b) h = refl
bool_value (value.Str s) h = cc

-- ---- columns of a schema

columns_wide : (fields : Fields) (columns : List Expr) (types : Fields) → AllZip (λ e f. type_of fields e ≡ Some f) columns types
    → widest_of fields columns ≡ widest types
columns_wide fields [] [] h = refl
columns_wide fields [] (f ∷ types) h = absurd h
columns_wide fields (e ∷ es) [] h = absurd h
columns_wide fields (e ∷ es) (f ∷ types) h =
    sum_by-cons (λ e. width_of_type (type_of fields e)) e es
    ∙ ap (λ (o : Option FieldType). width_of_type o + widest_of fields es) h.0
    ∙ ap (λ (n : ℕ). width f + n) (columns_wide fields es types h.1)
    ∙ sym (sum_by-cons width f types)

columns_small : (fields : Fields) (columns : List Expr) (types : Fields) → AllZip (λ e f. type_of fields e ≡ Some f) columns types
    → IsTrue (is_schema types) → widest_of fields columns ≤ record_limit
columns_small fields columns types h schema =
    omega (
      arith,
      columns_wide fields columns types h,
      leb-true (widest types) record_limit (both_true (nat_le 1 (length types) && nat_le (length types) field_limit && list_all is_bounded types) (nat_le (widest types) record_limit) schema).1,
    )

pub columns_of_a_schema : ColumnsOfASchema
columns_of_a_schema = record {
  small = columns_small;
  whole = λ fields t columns types row h. record { tuple = tuple-columns fields t row columns types h; formed = refl };
}

-- ---- a walk over columns

-- the first columns were looked at
pub record Checked (fields : Fields) (columns : List Expr) (i total : ℕ) : Type 0 where
  pub typed : IsTrue (are_typed fields (take i columns))
  pub wide : total ≡ widest_of fields (take i columns)
  pub low : total ≤ record_limit

module _ (fields : Fields) where
  widest_snoc : (es : List Expr) (e : Expr) → widest_of fields (es ++ e ∷ []) ≡ widest_of fields es + width_of_type (type_of fields e)
  widest_snoc [] e = omega (arith, sum_by-cons (λ e. width_of_type (type_of fields e)) e [])
  widest_snoc (d ∷ es) e =
      omega (arith, widest_snoc es e, sum_by-cons (λ e. width_of_type (type_of fields e)) d (es ++ e ∷ []), sum_by-cons (λ e. width_of_type (type_of fields e)) d es)

  typed_snoc : (es : List Expr) (e : Expr) → are_typed fields es ≡ true → (is_typed fields e && is_limited e) ≡ true → are_typed fields (es ++ e ∷ []) ≡ true
  typed_snoc [] e all here = both_pass (is_typed fields e && is_limited e) true here refl
  typed_snoc (d ∷ es) e all here =
      let parts = both_true (is_typed fields d && is_limited d) (are_typed fields es) all in
      both_pass (is_typed fields d && is_limited d) (are_typed fields (es ++ e ∷ [])) parts.0 (typed_snoc es e parts.1 here)

  -- one column more
  pub checked_more : (columns : List Expr) (i total more : ℕ) (e : Expr) → i < length columns → e ≡ get_or columns i e → Checked fields columns i total
      → more ≡ width_of_type (type_of fields e) → IsTrue (is_typed fields e && is_limited e) → total + more ≤ record_limit
      → Checked fields columns (i + 1) (total + more)
  checked_more columns i total more e inside is before more_is here low =
      let next : take (i + 1) columns ≡ take i columns ++ e ∷ [] =
      take_more columns i e inside ∙ ap (λ (x : Expr). take i columns ++ x ∷ []) (sym is) in
      record {
        typed = ap (are_typed fields) next ∙ typed_snoc (take i columns) e before.typed here;
        wide = omega (arith, ap (widest_of fields) next, widest_snoc (take i columns) e, before.wide, more_is);
        low = low;
      }
