use Rattle.std.specs.Prelude.{ℕ, Bool, true, false, ◌&&◌, ◌==◌, nat_le, nat_lt, List, [], ◌∷◌, ◌++◌, length, map, replicate, slice_get, slice_index_or, Option, Some, None, option_map}
use Rattle.std.specs.List.{list_all}
use Rattle.flow_types.specs.declared.field_type.FieldType.{FieldType}
use Rattle.flow_types.specs.declared.field_type.FieldType.TheVariants as type
use Rattle.flow_types.specs.declared.expr.Expr.{Expr}
use Rattle.flow_types.specs.declared.agg.Agg.{Agg}
use Rattle.flow_types.specs.declared.agg.Agg.TheVariants as agg
use Rattle.flow_types.specs.declared.order_item.OrderItem.{OrderItem}
use Rattle.flow_types.specs.Tuples.{Tuple}
use Rattle.flow_types.specs.Types.{Fields, fits}
use Rattle.flow_types.specs.ExprTypes.{◌>>=◌, widened, compared, typing_of, type_of}
use Rattle.flow_model.specs.declared.op.Branch.{Branch}
use Rattle.flow_model.specs.declared.op.Op.{Op}
use Rattle.flow_model.specs.declared.op.Op.TheVariants as op

-- The schemas of rows, as the operations give them. They are this project's own.

-- a value, where a test holds
abbrev pub only_if : {A : Type 0} → Bool → A → Option A
only_if true x = Some x
only_if false x = None

-- a first part and the others, where both are there
abbrev pub first_and_others : {A : Type 0} → Option A → Option (List A) → Option (List A)
first_and_others first others = first >>= λ x. others >>= λ xs. Some (x ∷ xs)

-- the types of columns over fields, where each has one
abbrev pub types_of : Fields → List Expr → Option Fields
types_of fields [] = Some []
types_of fields (e ∷ es) = first_and_others (type_of fields e) (types_of fields es)

-- the type Bool is there
abbrev pub is_bool : Option FieldType → Bool
is_bool (Some type.Bool) = true
is_bool _ = false

-- an expression has the type Bool
abbrev pub is_test : Fields → Expr → Bool
is_test fields e = is_bool (type_of fields e)

-- the types that have the values of both lists of types, place by place
abbrev pub both_widened : Fields → Fields → Option Fields
both_widened [] [] = Some []
both_widened [] (g ∷ gs) = None
both_widened (f ∷ fs) [] = None
both_widened (f ∷ fs) (g ∷ gs) = first_and_others (widened f g) (both_widened fs gs)

-- the types that have the values of all lists of types; none of no list
abbrev pub all_widened : List Fields → Option Fields
all_widened [] = None
all_widened (fs ∷ []) = Some fs
all_widened (fs ∷ gs ∷ rest) = all_widened (gs ∷ rest) >>= both_widened fs

-- the types of fields by their numbers, where each is there
abbrev pub fields_at : Fields → List ℕ → Option Fields
fields_at fields [] = Some []
fields_at fields (k ∷ ks) = first_and_others (slice_get fields k) (fields_at fields ks)

-- the type Long is there
abbrev pub is_long_type : Option FieldType → Bool
is_long_type (Some type.Long) = true
is_long_type _ = false

-- a field by its number is a Long
abbrev pub is_long_field : Fields → ℕ → Bool
is_long_field fields k = is_long_type (slice_get fields k)

-- a fold's field is a Long; a count has none
abbrev pub is_fold : Fields → Agg → Bool
is_fold fields (agg.Sum i) = is_long_field fields i
is_fold fields (agg.Min i empty) = is_long_field fields i
is_fold fields (agg.Max i empty) = is_long_field fields i
is_fold fields agg.Count = true

-- a Long for each fold
abbrev pub long_each : List Agg → Fields
long_each aggs = replicate (length aggs) type.Long

-- a type has the values of another: one kind, and no smaller bound
abbrev pub takes : FieldType → FieldType → Bool
takes type.Long type.Long = true
takes type.Bool type.Bool = true
takes (type.Str m) (type.Str n) = nat_le n m
takes _ _ = false

-- one schema fits another: the same kinds in the same places, and no bound exceeds the other's
abbrev pub fits_schema : Fields → Fields → Bool
fits_schema [] [] = true
fits_schema [] (g ∷ gs) = false
fits_schema (f ∷ fs) [] = false
fits_schema (f ∷ fs) (g ∷ gs) = takes g f && fits_schema fs gs

-- no part of any of these expressions has a bound past a text's limit
abbrev pub are_narrow : Fields → List Expr → Bool
are_narrow fields es = list_all (λ e. (typing_of fields e).narrow) es

-- the schema of columns over fields: each has a type, and no part is wider than a text
abbrev pub columns_type : Fields → List Expr → Option Fields
columns_type fields columns = types_of fields columns >>= only_if (are_narrow fields columns)

-- the schema of rows whose test is of a Bool, and no part of the test is wider than a text
abbrev pub tested : Fields → Expr → Option Fields
tested fields test = only_if (is_test fields test && (typing_of fields test).narrow) fields

-- the schema of a branch's rows
abbrev pub branch_type : Fields → Branch → Option Fields
branch_type fields branch = tested fields branch.when >>= λ _. columns_type fields branch.columns

-- the schemas of branches' rows, where each has one
abbrev pub branch_types : Fields → List Branch → Option (List Fields)
branch_types fields [] = Some []
branch_types fields (b ∷ bs) = first_and_others (branch_type fields b) (branch_types fields bs)

-- the schema of groups: the key's fields, and then a Long for each fold
abbrev pub group_type : Fields → List ℕ → List Agg → Option Fields
group_type fields key aggs = fields_at fields key >>= λ ks. only_if (list_all (is_fold fields) aggs) (ks ++ long_each aggs)

-- each item of an order is of a field
abbrev pub has_order : Fields → List OrderItem → Bool
has_order fields order = list_all (λ (i : OrderItem). nat_lt i.field (length fields)) order

-- the fields themselves, where a key's and an order's fields are among them
abbrev pub ranked : Fields → List ℕ → List OrderItem → Option Fields
ranked fields key order = fields_at fields key >>= λ ks. only_if (has_order fields order) fields

-- the key's types on both sides, widened: the keys have one length and the same kinds
abbrev pub keys_type : Fields → Fields → List ℕ → List ℕ → Option Fields
keys_type left right left_key right_key =
    fields_at left left_key >>= λ ls. fields_at right right_key >>= λ rs. both_widened ls rs

-- a default fits its side, where it is there
abbrev pub default_fits : Fields → Option Tuple → Bool
default_fits fields None = true
default_fits fields (Some t) = fits fields t

-- the schema of a join's rows: columns over the left fields followed by the right ones
abbrev pub join_type : Fields → Fields → List ℕ → List ℕ → List Expr → Option Tuple → Option Tuple → Option Fields
join_type left right left_key right_key columns left_default right_default =
    keys_type left right left_key right_key >>= λ ks. columns_type (left ++ right) columns
    >>= only_if (default_fits left left_default && default_fits right right_default)

-- the schema of a cogroup's rows: the key's types, and then a Long for each fold of either side
abbrev pub cogroup_type : Fields → Fields → List ℕ → List ℕ → List Agg → List Agg → Option Fields
cogroup_type left right left_key right_key left_aggs right_aggs =
    keys_type left right left_key right_key >>= λ ks.
    only_if (list_all (is_fold left) left_aggs && list_all (is_fold right) right_aggs) (ks ++ (long_each left_aggs ++ long_each right_aggs))

-- the schema of one of the inputs that an op takes, by its place among them; no fields where there is none
abbrev pub input_at : List Fields → ℕ → Fields
input_at inputs i = slice_index_or inputs i []

-- the schema of an op's rows, where it has one, by the schemas of the rows that it takes; `home_key` is the key of the
-- delta iteration in whose body it stands
abbrev pub op_type : (inputs : List Fields) → (home_key : List ℕ) → Op → Option Fields
op_type inputs home_key (op.Source fields delimiter) = Some fields
op_type inputs home_key (op.Map input columns) = columns_type (input_at inputs 0) columns
op_type inputs home_key (op.Filter input test) = tested (input_at inputs 0) test
op_type inputs home_key (op.FlatMap input rows) = branch_types (input_at inputs 0) rows >>= all_widened
op_type inputs home_key (op.Union names) = all_widened inputs
op_type inputs home_key (op.Distinct input) = Some (input_at inputs 0)
op_type inputs home_key (op.Group input key aggs combine) = group_type (input_at inputs 0) key aggs
op_type inputs home_key (op.Top input key order count) = ranked (input_at inputs 0) key order
op_type inputs home_key (op.Join left right left_key right_key columns kind left_default right_default) =
    join_type (input_at inputs 0) (input_at inputs 1) left_key right_key columns left_default right_default
op_type inputs home_key (op.Cogroup left right left_key right_key left_aggs right_aggs) =
    cogroup_type (input_at inputs 0) (input_at inputs 1) left_key right_key left_aggs right_aggs
op_type inputs home_key (op.Bulk init bind most next until) = Some (input_at inputs 0)
op_type inputs home_key (op.Delta solution workset bind key order merge most delta next) = ranked (input_at inputs 0) key order
op_type inputs home_key (op.Probe input key columns) =
    join_type (input_at inputs 0) (input_at inputs 1) key home_key columns None None
