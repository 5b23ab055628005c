use Rattle.std.proofs.Common.{List, ℕ, sym, ap, ◌∙◌}
use Rattle.flow_types.specs.Types.{Fields}
use Rattle.flow_model.specs.Schemas.{input_at}
use Rattle.plan_typing.specs.Typing.{typed_op}
use Rattle.plan_typing.specs.Ops.{typed_filter, typed_flat_map, typed_group, typed_map}
use Rattle.plan_typing.specs.Sides.{SideTypes, sides_of, side_types, typed_join, typed_probe, typed_cogroup}
use Rattle.plan_typing.proofs.OpLemmas.{on_ok}
use Rattle.plan_typing.proofs.ops.type_op.Goals as goal

pub returns-in-Map : goal.returns-in-Map
returns-in-Map c =
    on_ok c.type_map.result (typed_map c.input_at-first.result.now c.as_slice-in-Map.result.now) (typed_op c.args.inputs.now c.args.home_key.now c.args.op.now) c.type_map.ensures
    (ap (λ (f : Fields). typed_map f c.as_slice-in-Map.result.now) c.input_at-first.ensures
    ∙ ap (typed_map (input_at c.args.inputs.now 0)) c.as_slice-in-Map.ensures
    ∙ ap (typed_op c.args.inputs.now c.args.home_key.now) (sym c.in-Map.is))

pub returns-in-Filter : goal.returns-in-Filter
returns-in-Filter c =
    on_ok c.type_filter.result (typed_filter c.input_at-first.result.now c.in-Filter.test) (typed_op c.args.inputs.now c.args.home_key.now c.args.op.now) c.type_filter.ensures
    (ap (λ (f : Fields). typed_filter f c.in-Filter.test) c.input_at-first.ensures
    ∙ ap (typed_op c.args.inputs.now c.args.home_key.now) (sym c.in-Filter.is))

pub returns-in-FlatMap : goal.returns-in-FlatMap
returns-in-FlatMap c =
    on_ok c.type_flat_map.result (typed_flat_map c.input_at-first.result.now c.as_slice-in-FlatMap.result.now) (typed_op c.args.inputs.now c.args.home_key.now c.args.op.now) c.type_flat_map.ensures
    (ap (λ (f : Fields). typed_flat_map f c.as_slice-in-FlatMap.result.now) c.input_at-first.ensures
    ∙ ap (typed_flat_map (input_at c.args.inputs.now 0)) c.as_slice-in-FlatMap.ensures
    ∙ ap (typed_op c.args.inputs.now c.args.home_key.now) (sym c.in-FlatMap.is))

pub returns-in-Group : goal.returns-in-Group
returns-in-Group c =
    on_ok c.type_group.result (typed_group c.input_at-first.result.now c.as_slice-in-Group.result.now c.as_slice-in-Group-2.result.now) (typed_op c.args.inputs.now c.args.home_key.now c.args.op.now) c.type_group.ensures
    (ap (λ (f : Fields). typed_group f c.as_slice-in-Group.result.now c.as_slice-in-Group-2.result.now) c.input_at-first.ensures
    ∙ ap (λ (k : List ℕ). typed_group (input_at c.args.inputs.now 0) k c.as_slice-in-Group-2.result.now) c.as_slice-in-Group.ensures
    ∙ ap (typed_group (input_at c.args.inputs.now 0) c.in-Group.key) c.as_slice-in-Group-2.ensures
    ∙ ap (typed_op c.args.inputs.now c.args.home_key.now) (sym c.in-Group.is))

pub returns-in-Join : goal.returns-in-Join
returns-in-Join c =
    on_ok c.type_join.result (typed_join (sides_of c.two_sides-sides.result) c.in-Join.columns c.in-Join.left_default c.in-Join.right_default) (typed_op c.args.inputs.now c.args.home_key.now c.args.op.now) c.type_join.ensures
    (ap (λ (s : SideTypes). typed_join s c.in-Join.columns c.in-Join.left_default c.in-Join.right_default) (c.two_sides-sides.ensures ∙ ap (λ (k : List ℕ). side_types c.args.inputs.now k c.as_slice-in-Join-2.result.now) c.as_slice-in-Join.ensures ∙ ap (side_types c.args.inputs.now c.in-Join.left_key) c.as_slice-in-Join-2.ensures)
    ∙ ap (typed_op c.args.inputs.now c.args.home_key.now) (sym c.in-Join.is))

pub returns-in-Cogroup : goal.returns-in-Cogroup
returns-in-Cogroup c =
    on_ok c.type_cogroup.result (typed_cogroup (sides_of c.two_sides-sides-in-Cogroup.result) c.as_slice-in-Cogroup-3.result.now c.as_slice-in-Cogroup-4.result.now) (typed_op c.args.inputs.now c.args.home_key.now c.args.op.now) c.type_cogroup.ensures
    (ap (λ (s : SideTypes). typed_cogroup s c.as_slice-in-Cogroup-3.result.now c.as_slice-in-Cogroup-4.result.now) (c.two_sides-sides-in-Cogroup.ensures ∙ ap (λ (k : List ℕ). side_types c.args.inputs.now k c.as_slice-in-Cogroup-2.result.now) c.as_slice-in-Cogroup.ensures ∙ ap (side_types c.args.inputs.now c.in-Cogroup.left_key) c.as_slice-in-Cogroup-2.ensures)
    ∙ ap (λ fs. typed_cogroup (side_types c.args.inputs.now c.in-Cogroup.left_key c.in-Cogroup.right_key) fs c.as_slice-in-Cogroup-4.result.now) c.as_slice-in-Cogroup-3.ensures
    ∙ ap (typed_cogroup (side_types c.args.inputs.now c.in-Cogroup.left_key c.in-Cogroup.right_key) c.in-Cogroup.left_aggs) c.as_slice-in-Cogroup-4.ensures
    ∙ ap (typed_op c.args.inputs.now c.args.home_key.now) (sym c.in-Cogroup.is))

pub returns-in-Probe : goal.returns-in-Probe
returns-in-Probe c =
    on_ok c.type_probe.result (typed_probe (sides_of c.two_sides-sides-in-Probe.result) c.as_slice-in-Probe-2.result.now) (typed_op c.args.inputs.now c.args.home_key.now c.args.op.now) c.type_probe.ensures
    (ap (λ (s : SideTypes). typed_probe s c.as_slice-in-Probe-2.result.now) (c.two_sides-sides-in-Probe.ensures ∙ ap (λ (k : List ℕ). side_types c.args.inputs.now k c.args.home_key.now) c.as_slice-in-Probe.ensures)
    ∙ ap (typed_probe (side_types c.args.inputs.now c.in-Probe.key c.args.home_key.now)) c.as_slice-in-Probe-2.ensures
    ∙ ap (typed_op c.args.inputs.now c.args.home_key.now) (sym c.in-Probe.is))
