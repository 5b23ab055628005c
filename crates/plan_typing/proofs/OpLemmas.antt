-- The schema of an op, by what is told of its columns.
use Rattle.std.proofs.Common.{◌≡◌, ℕ, zero, suc, ◌+◌, ◌≤◌, Bool, true, false, ◌&&◌, nat_le, List, [], ◌∷◌, length, map, Option, Some, None, Result, Err, refl, sym, ap, ◌∙◌, subst, arith}
use Rattle.std.specs.Prelude.{nat_lt, is_some, option_map, slice_get, IfOk}
use Rattle.std.specs.List.{list_all}
use Rattle.std.proofs.lemmas.Bool.Decides.{nat_tests}
use Rattle.flow_types.specs.Limits.{text_limit, field_limit, record_limit}
use Rattle.flow_types.specs.declared.field_type.FieldType.{FieldType}
use Rattle.flow_types.specs.declared.field_type.FieldType.TheVariants as type
use Rattle.flow_types.specs.declared.expr.Expr.{Expr}
use Rattle.flow_types.specs.Tuples.{Tuple}
use Rattle.flow_types.specs.Types.{Fields, is_bounded, is_schema, widest}
use Rattle.flow_types.specs.ExprTypes.{◌>>=◌}
use Rattle.flow_model.specs.declared.plan_code.PlanCode.{PlanCode}
use Rattle.flow_model.specs.declared.plan_code.PlanCode.TheVariants as code
use Rattle.flow_types.specs.declared.order_item.OrderItem.{OrderItem}
use Rattle.flow_model.specs.Schemas.{only_if, first_and_others, types_of, fields_at, are_narrow, columns_type, has_order, ranked, default_fits}
use Rattle.plan_typing.specs.Typing.{is_key_within, are_as_long, are_within, in_width, in_types, in_fields, have_types}
use Rattle.plan_typing.specs.Told.{capped, told_columns, schema_of_columns}
use Rattle.plan_typing.specs.Sides.{SideTypes, keys_of, fields_of, have_pair_types, pairs_type, typed_join}
use Rattle.plan_typing.proofs.ToldLemmas.{bound_told}

-- Types that are told are a schema where the types themselves are, and are then these.

bounded_told : (t : FieldType) → is_bounded (capped t) ≡ is_bounded t
bounded_told type.Long = refl
bounded_told type.Bool = refl
bounded_told (type.Str m) = bound_told m

bounded_same : (t : FieldType) → is_bounded t ≡ true → capped t ≡ t
bounded_same type.Long h = refl
bounded_same type.Bool h = refl
bounded_same (type.Str m) h =
    let low : m ≤ text_limit = grind (arith, nat_tests) in
    ap type.Str (omega arith)

all_bounded_told : (ts : Fields) → list_all is_bounded (map capped ts) ≡ list_all is_bounded ts
all_bounded_told [] = refl
all_bounded_told (t ∷ ts) = let e = bounded_told t in let es = all_bounded_told ts in cc

all_bounded_same : (ts : Fields) → list_all is_bounded ts ≡ true → map capped ts ≡ ts
all_bounded_same [] h = refl
all_bounded_same (t ∷ ts) h = go (is_bounded t) refl h (all_bounded_same ts)
  where
    go : (b : Bool) → is_bounded t ≡ b → (b && list_all is_bounded ts) ≡ true → (list_all is_bounded ts ≡ true → map capped ts ≡ ts) → map capped (t ∷ ts) ≡ t ∷ ts
    go true is h same = let e = bounded_same t is in let es = same h in cc
    go false is h same = cc

no_schema : (ts : Fields) → list_all is_bounded ts ≡ false → is_schema ts ≡ false
no_schema ts h = go (nat_le 1 (length ts) && nat_le (length ts) field_limit) (nat_le (widest ts) record_limit) (list_all is_bounded ts) h
  where
    go : (a d b : Bool) → b ≡ false → ((a && b) && d) ≡ false
    go true d false h = refl
    go false d false h = refl
    go a d true h = cc

in_width_none : (ts : Fields) → is_schema ts ≡ false → in_width (Some ts) ≡ Err code.BadWidth
in_width_none ts h = rw h

pub width_told : (ts : Fields) → in_width (Some (map capped ts)) ≡ in_width (Some ts)
width_told ts = go (list_all is_bounded ts) refl
  where
    go : (b : Bool) → list_all is_bounded ts ≡ b → in_width (Some (map capped ts)) ≡ in_width (Some ts)
    go true is = ap (λ us. in_width (Some us)) (all_bounded_same ts is)
    go false is = in_width_none (map capped ts) (no_schema (map capped ts) (all_bounded_told ts ∙ is)) ∙ sym (in_width_none ts (no_schema ts is))

-- Columns

pub columns_schema : (fields : Fields) (es : List Expr) → schema_of_columns (told_columns fields es) ≡ in_types (have_types fields es) (columns_type fields es)
columns_schema fields es = go (types_of fields es) (are_narrow fields es)
  where
    go : (o : Option Fields) (narrow : Bool) → schema_of_columns (option_map (λ ts. record { types = map capped ts; narrow = narrow }) o) ≡ in_types (is_some o) (o >>= only_if narrow)
    go None narrow = refl
    go (Some ts) true = width_told ts
    go (Some ts) false = refl

-- Keys

is_some_at : (fields : Fields) (k : ℕ) → nat_lt k (length fields) ≡ is_some (slice_get fields k)
is_some_at [] k = grind (arith, nat_tests)
is_some_at (f ∷ fs) zero = let e : nat_lt 0 (suc (length fs)) ≡ true = grind (arith, nat_tests) in e
is_some_at (f ∷ fs) (suc k) = let e : nat_lt (suc k) (suc (length fs)) ≡ nat_lt k (length fs) = grind (arith, nat_tests) in e ∙ is_some_at fs k

both_there : {A : Type 0} (o : Option A) (os : Option (List A)) → is_some (first_and_others o os) ≡ (is_some o && is_some os)
both_there None os = refl
both_there (Some x) None = refl
both_there (Some x) (Some xs) = refl

-- a key's fields are there exactly where each number is below the number of fields
pub key_within : (fields : Fields) (key : List ℕ) → is_key_within (length fields) key ≡ is_some (fields_at fields key)
key_within fields [] = refl
key_within fields (k ∷ ks) =
    ap (λ b. b && is_key_within (length fields) ks) (is_some_at fields k)
    ∙ ap (λ b. is_some (slice_get fields k) && b) (key_within fields ks)
    ∙ sym (both_there (slice_get fields k) (fields_at fields ks))

-- rows that are ranked by fields that are there keep their schema
pub ranked_schema : (fields : Fields) (key : List ℕ) (order : List OrderItem) → is_key_within (length fields) key ≡ true → has_order fields order ≡ true → ranked fields key order ≡ Some fields
ranked_schema fields key order within ordered = go (fields_at fields key) (has_order fields order) (sym (key_within fields key) ∙ within) ordered
  where
    go : (o : Option Fields) (b : Bool) → is_some o ≡ true → b ≡ true → (o >>= λ ks. only_if b fields) ≡ Some fields
    go None b h i = cc
    go (Some ks) true h i = refl
    go (Some ks) false h i = cc

-- Rows of two sides

-- columns over sides whose keys have the same kinds, and whose defaults fit
pub pairs_schema : (s : SideTypes) (columns : List Expr) (ks : Fields) → Some ks ≡ keys_of s → in_types (have_pair_types s columns true) (pairs_type s columns true) ≡ in_types (have_types (fields_of s) columns) (columns_type (fields_of s) columns)
pairs_schema s columns ks h = go (keys_of s) h (have_types (fields_of s) columns) (columns_type (fields_of s) columns)
  where
    go : (o : Option Fields) → Some ks ≡ o → (b : Bool) (c : Option Fields) → in_types (is_some o && b && true) (o >>= λ ks. c >>= only_if true) ≡ in_types b c
    go None e b c = cc
    go (Some ls) e true None = refl
    go (Some ls) e true (Some ts) = refl
    go (Some ls) e false c = refl

-- columns over sides that are refused
pub pairs_unfit : (s : SideTypes) (columns : List Expr) → in_types (have_pair_types s columns false) (pairs_type s columns false) ≡ Err code.BadTypes
pairs_unfit s columns = go (is_some (keys_of s) && have_types (fields_of s) columns)
  where
    go : (b : Bool) → in_types (b && false) (pairs_type s columns false) ≡ Err code.BadTypes
    go true = refl
    go false = refl

-- the field numbers of a join are right
abbrev pub has_join_fields : SideTypes → List Expr → Bool
has_join_fields s columns =
    is_key_within (length s.left) s.left_key && is_key_within (length s.right) s.right_key
    && are_as_long s.left_key s.right_key && are_within (length s.left + length s.right) columns

-- a join's schema is that of columns over its sides
pub join_schema : (s : SideTypes) (columns : List Expr) (left_default right_default : Option Tuple) → has_join_fields s columns ≡ true → in_types (have_pair_types s columns (default_fits s.left left_default && default_fits s.right right_default)) (pairs_type s columns (default_fits s.left left_default && default_fits s.right right_default)) ≡ typed_join s columns left_default right_default
join_schema s columns left_default right_default h = go (has_join_fields s columns) h (is_some (keys_of s) && have_types (fields_of s) columns) (default_fits s.left left_default) (default_fits s.right right_default)
  where
    go : (w : Bool) → w ≡ true → (b l r : Bool) → in_types (b && (l && r)) (pairs_type s columns (default_fits s.left left_default && default_fits s.right right_default)) ≡ in_fields w (b && l && r) (pairs_type s columns (default_fits s.left left_default && default_fits s.right right_default))
    go true h true l r = refl
    go true h false l r = refl
    go false h b l r = cc

-- an answer of one schema is one of an equal schema
pub on_ok : {E : Type 0} (r : Result (Result Fields PlanCode) E) (s t : Result Fields PlanCode) → IfOk r (λ x. x ≡ s) → s ≡ t → IfOk r (λ x. x ≡ t)
on_ok r s t h e = subst (λ z. IfOk r (λ x. x ≡ z)) e h
