use Rattle.std.specs.Prelude.{ℕ, Bool, true, false, not, ◌&&◌, ◌||◌, ◌==◌, nat_le, if◌then◌else◌, ℤ, pos, List, [], ◌∷◌, length, take, drop, codes, Option, Some, None, option_map}
use Rattle.std.specs.Str.{bytes_eq}
use Rattle.serde_json.specs.Data.{Data}
use Rattle.serde_json.specs.Find.{as_str, as_bool}
use Rattle.flow_types.specs.declared.field_type.FieldType.{FieldType}
use Rattle.flow_types.specs.declared.field_type.FieldType.TheVariants as type
use Rattle.flow_types.specs.declared.agg.Agg.{Agg}
use Rattle.flow_types.specs.declared.agg.Agg.TheVariants as agg
use Rattle.flow_types.specs.declared.order_item.OrderItem.{OrderItem}
use Rattle.flow_types.specs.Decimal.{number_up_to}
use Rattle.flow_types.specs.Limits.{text_limit}
use Rattle.flow_model.specs.declared.op.JoinKind.{JoinKind}
use Rattle.flow_model.specs.declared.op.JoinKind.TheVariants as kind
use Rattle.flow_model.specs.declared.op.MergeRule.{MergeRule}
use Rattle.flow_model.specs.declared.op.MergeRule.TheVariants as merge
use Rattle.flow_model.specs.Rules.{is_delimiter}
use Rattle.plan_json.specs.declared.reading.Flaw.TheVariants as flaw
use Rattle.plan_json.specs.Json.{◌>>=◌, only_if, collected, meaning, items_in, list_in, is_text, long}
use Rattle.plan_json.specs.Reading.{Reading, or_flaw, or_absent}
use Rattle.plan_json.specs.Numbers.{field_number}

-- Members that are neither names, numbers nor expressions.

-- no zero before other digits
abbrev pub has_no_leading_zero : List ℕ → Bool
has_no_leading_zero [] = true
has_no_leading_zero (c ∷ cs) = not (c == 48) || (length cs == 0)

-- a text's bound, from 0 to 16,382
abbrev pub bound_of : List ℕ → Option ℕ
bound_of digits = if has_no_leading_zero digits then number_up_to text_limit digits else None

-- `long`, `bool`, or `str:` and a bound
abbrev pub type_of_text : List ℕ → Option FieldType
type_of_text text =
    if bytes_eq text (codes "long") then Some type.Long
    else (if bytes_eq text (codes "bool") then Some type.Bool
    else (if nat_le 4 (length text) && bytes_eq (take 4 text) (codes "str:") then option_map type.Str (bound_of (drop 4 text)) else None))

-- the type of a field that a text names
abbrev pub field_type : Data → Option FieldType
field_type d = as_str d >>= type_of_text

-- a member that is a list of 1 to 32 types of fields
abbrev pub fields_in : Option Data → Reading (List FieldType)
fields_in member = or_flaw flaw.Node (member >>= list_in 1 32 >>= collected field_type)

-- a text of one byte that stands between fields
abbrev pub delimiter_of : List ℕ → Option ℕ
delimiter_of [] = None
delimiter_of (c ∷ cs) = only_if ((length cs == 0) && is_delimiter c) c

-- a member that is a delimiter; a comma where it is absent
abbrev pub delimiter_in : Option Data → Reading ℕ
delimiter_in member = or_absent 44 (λ d. or_flaw flaw.Node (as_str d >>= delimiter_of)) member

-- a member that is true or false; true where it is absent
abbrev pub combine_in : Option Data → Reading Bool
combine_in member = or_absent true (λ d. or_flaw flaw.Node (as_bool d)) member

-- the least or the greatest of a field, and what stands for it where there is no row
abbrev pub extreme : Data → ℕ → ℤ → Option Agg
extreme word i empty =
    if is_text (codes "min") word then Some (agg.Min i empty) else (if is_text (codes "max") word then Some (agg.Max i empty) else None)

-- a fold of a field that names no number for no rows; the number of an extreme is then 0
abbrev pub agg_on : Data → ℕ → Option Agg
agg_on word i = if is_text (codes "sum") word then Some (agg.Sum i) else extreme word i (pos 0)

-- `["count"]`, `["sum", i]`, `["min", i]`, `["max", i]`, `["min", i, n]` or `["max", i, n]`
abbrev pub agg_in : List Data → Option Agg
agg_in (word ∷ []) = only_if (is_text (codes "count") word) agg.Count
agg_in (word ∷ i ∷ []) = field_number i >>= agg_on word
agg_in (word ∷ i ∷ n ∷ []) = field_number i >>= λ i. long n >>= extreme word i
agg_in _ = None

-- the fold that an array is
abbrev pub agg_of : Data → Option Agg
agg_of d = items_in d >>= agg_in

-- a member that is a list of 0 to 16 folds
abbrev pub aggs_in : Option Data → Reading (List Agg)
aggs_in member = or_flaw flaw.Node (member >>= list_in 0 16 >>= collected agg_of)

-- whether the greater values stand first
abbrev pub directions : List (List ℕ × Bool)
directions = (codes "asc", false) ∷ (codes "desc", true) ∷ []

-- `[i, "asc"]` or `[i, "desc"]`
abbrev pub order_item_in : List Data → Option OrderItem
order_item_in (i ∷ word ∷ []) =
    field_number i >>= λ i. as_str word >>= meaning directions >>= λ down. Some (record { field = i; down = down })
order_item_in _ = None

-- the order's item that an array is
abbrev pub order_item_of : Data → Option OrderItem
order_item_of d = items_in d >>= order_item_in

-- a member that is an order of 0 to 8 items
abbrev pub order_in : Option Data → Reading (List OrderItem)
order_in member = or_flaw flaw.Node (member >>= list_in 0 8 >>= collected order_item_of)

-- the kinds of joins by their words
abbrev pub kinds : List (List ℕ × JoinKind)
kinds = (codes "inner", kind.Inner) ∷ (codes "left", kind.Left) ∷ (codes "right", kind.Right) ∷ (codes "full", kind.Full) ∷ []

-- a member that is the kind of a join; inner where it is absent
abbrev pub kind_in : Option Data → Reading JoinKind
kind_in member = or_absent kind.Inner (λ d. or_flaw flaw.Node (as_str d >>= meaning kinds)) member

-- the rules of merges by their words
abbrev pub merge_rules : List (List ℕ × MergeRule)
merge_rules = (codes "replace", merge.Replace) ∷ (codes "greatest", merge.Greatest) ∷ []

-- a member that is the rule of a merge
abbrev pub merge_in : Option Data → Reading MergeRule
merge_in member = or_flaw flaw.Node (member >>= as_str >>= meaning merge_rules)
