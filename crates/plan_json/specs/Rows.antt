use Rattle.std.specs.Prelude.{ℕ, Bool, List, [], ◌∷◌, codes, Option}
use Rattle.std.specs.Str.{bytes_eq}
use Rattle.std.specs.List.{list_any}
use Rattle.serde_json.specs.Data.{Data}
use Rattle.serde_json.specs.Find.{get, as_str, as_object}
use Rattle.plan_json.specs.declared.rows.OpName.{OpName}
use Rattle.plan_json.specs.declared.rows.OpName.TheVariants as op_name
use Rattle.plan_json.specs.declared.rows.Form.{Form}
use Rattle.plan_json.specs.declared.rows.Form.TheVariants as form
use Rattle.plan_json.specs.Json.{◌>>=◌, meaning, all_names}

-- The ops, and the members that an object of a plan may have. They are this project's own.

-- the ops by their words
abbrev pub op_names : List (List ℕ × OpName)
op_names =
    (codes "source", op_name.Source) ∷ (codes "map", op_name.Map) ∷ (codes "filter", op_name.Filter) ∷ (codes "flat_map", op_name.FlatMap)
    ∷ (codes "union", op_name.Union) ∷ (codes "distinct", op_name.Distinct) ∷ (codes "group", op_name.Group) ∷ (codes "top", op_name.Top)
    ∷ (codes "join", op_name.Join) ∷ (codes "cogroup", op_name.Cogroup) ∷ (codes "bulk", op_name.Bulk) ∷ (codes "delta", op_name.Delta)
    ∷ (codes "probe", op_name.Probe) ∷ []

-- the op that a node names
abbrev pub op_name_of : Data → Option OpName
op_name_of d = get (codes "op") d >>= as_str >>= meaning op_names

-- the members of an op's row, beside `name` and `op`
abbrev pub row_of : OpName → List (List ℕ)
row_of op_name.Source = codes "fields" ∷ codes "delimiter" ∷ []
row_of op_name.Map = codes "input" ∷ codes "columns" ∷ []
row_of op_name.Filter = codes "input" ∷ codes "test" ∷ []
row_of op_name.FlatMap = codes "input" ∷ codes "rows" ∷ []
row_of op_name.Union = codes "inputs" ∷ []
row_of op_name.Distinct = codes "input" ∷ []
row_of op_name.Group = codes "input" ∷ codes "key" ∷ codes "aggs" ∷ codes "combine" ∷ []
row_of op_name.Top = codes "input" ∷ codes "key" ∷ codes "order" ∷ codes "count" ∷ []
row_of op_name.Join =
    codes "left" ∷ codes "right" ∷ codes "left_key" ∷ codes "right_key" ∷ codes "columns" ∷ codes "kind" ∷ codes "left_default" ∷ codes "right_default" ∷ []
row_of op_name.Cogroup =
    codes "left" ∷ codes "right" ∷ codes "left_key" ∷ codes "right_key" ∷ codes "left_aggs" ∷ codes "right_aggs" ∷ []
row_of op_name.Bulk = codes "init" ∷ codes "bind" ∷ codes "max" ∷ codes "body" ∷ codes "next" ∷ codes "until" ∷ []
row_of op_name.Delta =
    codes "solution" ∷ codes "workset" ∷ codes "bind" ∷ codes "key" ∷ codes "order" ∷ codes "merge" ∷ codes "max" ∷ codes "body" ∷ codes "delta" ∷ codes "next" ∷ []
row_of op_name.Probe = codes "input" ∷ codes "key" ∷ codes "columns" ∷ []

-- the members that an object may have
abbrev pub members_of : Form → List (List ℕ)
members_of form.Plan = codes "version" ∷ codes "segment" ∷ codes "nodes" ∷ codes "result" ∷ []
members_of form.Branch = codes "when" ∷ codes "columns" ∷ []
members_of (form.Node op) = codes "name" ∷ codes "op" ∷ row_of op

-- whether a member belongs to an object of this form
abbrev pub is_member : Form → List ℕ → Bool
is_member f name = list_any (bytes_eq name) (members_of f)

-- an object that has no other member
abbrev pub has_only : Form → Data → Bool
has_only f d = all_names (is_member f) (as_object d)
