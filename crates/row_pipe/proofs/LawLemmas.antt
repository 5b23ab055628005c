-- The laws.
use Rattle.std.proofs.Common.{◌≡◌, ℕ, ◌+◌, ◌-◌, ◌/◌, ◌<◌, ◌≤◌, true, ◌&&◌, List, [], ◌∷◌, ◌++◌, length, map, nat_le, IsSome, IsTrue, refl, ap, subst, arith, length-append, le-div_iff_mul-le, div-mul-le_self}
use Rattle.std.specs.Prelude.{if◌then◌else◌}
use Rattle.std.specs.List.{list_all}
use Rattle.std.proofs.lemmas.List.{length-map}
use Rattle.std.proofs.lemmas.Bool.{leb-true}
use Rattle.std.proofs.lemmas.List.Elements.{All-weaker}
use Rattle.flow_types.specs.Types.{Fields}
use Rattle.flow_types.specs.Records.{form}
use Rattle.flow_types.proofs.ValueLemmas.{both_true}
use Rattle.flow_model.specs.declared.op.Op.{Op}
use Rattle.flow_model.specs.declared.op.Op.TheVariants as op
use Rattle.flow_model.specs.declared.plan.Node.{Node}
use Rattle.flow_model.specs.Rules.{are_inputs, end_references, home_key, in_range, inputs_of, is_fields, is_fitting, is_placed, is_probe, is_visible, is_visible_at_end, references, rows_type, schema_in}
use Rattle.flow_model.specs.Schemas.{op_type}
use Rattle.model_laws.proofs.SchemaLaws.{same_inputs}
use Rattle.row_pipe.specs.Laws.{NarrowRowsStayWithin, NodesMayBeOpened}
use Rattle.row_pipe.specs.Pipes.{most_touched}
use Rattle.row_pipe.specs.Works.{piped, work_of}
use Rattle.row_pipe.proofs.Adding.{all_map}

div_grows : (a b k : ℕ) → 0 < k → a ≤ b → a / k ≤ b / k
div_grows a b k some less = (le-div_iff_mul-le {k = k} {x = a / k} {y = b} some).1 (omega (arith, div-mul-le_self a k, less))

touched_grows : (size a b : ℕ) → 16 < size → a ≤ b → most_touched size a ≤ most_touched size b
touched_grows size a b large less =
    omega (arith, div_grows (4 + a + (size - 16) - 1) (4 + b + (size - 16) - 1) (size - 16) (omega (arith, large)) (omega (arith, less)))

pub narrow_within : NarrowRowsStayWithin
narrow_within fields w most size reach large narrow low t row =
    all_map (λ (bytes : List ℕ). most_touched size (length bytes) ≤ reach) form (piped w (t ∷ []))
    (All-weaker (λ u. length (form u) ≤ most) (λ u. most_touched size (length (form u)) ≤ reach)
    (λ u less. omega (arith, touched_grows size (length (form u)) most large less, low)) (piped w (t ∷ [])) (narrow t row))

-- An op that goes row by row refers to an input.
has_reference : (o : Op) → in_range o ≡ true → IsSome (work_of o) → 0 < length (references o)
has_reference (op.Map input columns) ranged some = omega arith
has_reference (op.Filter input test) ranged some = omega arith
has_reference (op.FlatMap input rows) ranged some = omega arith
has_reference (op.Union names) ranged some =
    let both = both_true (nat_le 2 (length names)) (nat_le (length names) 8) ranged in omega (arith, leb-true 2 (length names) both.0)
has_reference (op.Source fields delimiter) ranged some = cc
has_reference (op.Distinct input) ranged some = cc
has_reference (op.Group input key aggs combine) ranged some = cc
has_reference (op.Top input key order count) ranged some = cc
has_reference (op.Join left right left_key right_key columns kind left_default right_default) ranged some = cc
has_reference (op.Cogroup left right left_key right_key left_aggs right_aggs) ranged some = cc
has_reference (op.Bulk init bind most next until) ranged some = cc
has_reference (op.Delta solution workset bind key order merge most delta next) ranged some = cc
has_reference (op.Probe input key columns) ranged some = cc

-- The key of a delta iteration around such an op doesn't count.
type_without_key : (inputs : List Fields) (key : List ℕ) (o : Op) → IsSome (work_of o) → op_type inputs key o ≡ op_type inputs [] o
type_without_key inputs key (op.Map input columns) some = refl
type_without_key inputs key (op.Filter input test) some = refl
type_without_key inputs key (op.FlatMap input rows) some = refl
type_without_key inputs key (op.Union names) some = refl
type_without_key inputs key (op.Source fields delimiter) some = cc
type_without_key inputs key (op.Distinct input) some = cc
type_without_key inputs key (op.Group input aggs_key aggs combine) some = cc
type_without_key inputs key (op.Top input top_key order count) some = cc
type_without_key inputs key (op.Join left right left_key right_key columns kind left_default right_default) some = cc
type_without_key inputs key (op.Cogroup left right left_key right_key left_aggs right_aggs) some = cc
type_without_key inputs key (op.Bulk init bind most next until) some = cc
type_without_key inputs key (op.Delta solution workset bind delta_key order merge most delta next) some = cc
type_without_key inputs key (op.Probe input probe_key columns) some = cc

behind_references : (xs ys : List Fields) → length xs ≤ length (xs ++ ys)
behind_references xs ys = omega (arith, length-append xs ys)

inputs_count : (nodes : List Node) (node : Node) → length (references node.op) ≤ length (inputs_of nodes node)
inputs_count nodes node =
    omega (arith, behind_references (map (schema_in nodes node.home) (references node.op)) (if is_probe node.op then schema_in nodes 0 node.home ∷ [] else []), length-map (references node.op) (schema_in nodes node.home))

pub node_opens : NodesMayBeOpened
node_opens nodes node holds some =
    let fits = both_true (is_placed nodes node && list_all (is_visible nodes node) (references node.op) && list_all (is_visible_at_end nodes node) (end_references node.op) && in_range node.op && are_inputs (inputs_of nodes node) node.inputs && is_fields (rows_type nodes node node.op) node.schema) (is_fitting nodes node node.op) holds in
    let fields = both_true (is_placed nodes node && list_all (is_visible nodes node) (references node.op) && list_all (is_visible_at_end nodes node) (end_references node.op) && in_range node.op && are_inputs (inputs_of nodes node) node.inputs) (is_fields (rows_type nodes node node.op) node.schema) fits.0 in
    let inputs = both_true (is_placed nodes node && list_all (is_visible nodes node) (references node.op) && list_all (is_visible_at_end nodes node) (end_references node.op) && in_range node.op) (are_inputs (inputs_of nodes node) node.inputs) fields.0 in
    let ranged = both_true (is_placed nodes node && list_all (is_visible nodes node) (references node.op) && list_all (is_visible_at_end nodes node) (end_references node.op)) (in_range node.op) inputs.0 in
    record {
      input = omega (arith, ap length (same_inputs (inputs_of nodes node) node.inputs inputs.1), inputs_count nodes node, has_reference node.op ranged.1 some);
      ranged = ranged.1;
      typed = subst (λ o. IsTrue (is_fields o node.schema)) (type_without_key node.inputs (home_key nodes node) node.op some) fields.1;
    }
