use Rattle.std.proofs.Common.{◌-◌, length, arith}
use Rattle.std.proofs.lemmas.Grind.{common_steps}
use Rattle.flow_types.specs.declared.field_type.FieldType.TheVariants as type
use Rattle.delim_io.proofs.LineLemmas.{line_short, line_long, field_refused, bounded_at}
use Rattle.delim_io.proofs.first_form.read_line.Goals as goal

pub returns-in_default-cut-clause-refused : goal.returns-in_default-cut-clause-refused
returns-in_default-cut-clause-refused c =
    λ e. line_short c.args.fields.now c.args.delimiter c.args.line.now c.loop-i.values.items c.loop-i.i c.loop-i.rest.now c.loop-i.invariant type.Long (omega arith) c.in_default-cut.ensures.parts

pub returns-in_err-push_value-clause-refused : goal.returns-in_err-push_value-clause-refused
returns-in_err-push_value-clause-refused c =
    λ e. field_refused c.args.fields.now c.args.delimiter c.args.line.now c.loop-i.values.items c.loop-i.i c.loop-i.rest.now c.loop-i.invariant type.Long c.in-Some.text.now c.in-Some.after.now (omega arith) (grind (arith, common_steps)) (grind (arith, common_steps))

pub push_value-requires-in-None : goal.push_value-requires-in-None
push_value-requires-in-None c = bounded_at c.args.fields.now (length c.args.fields.now - 1) type.Long c.requires.bounded (omega arith)

pub returns-in-Some-cut-clause-refused : goal.returns-in-Some-cut-clause-refused
returns-in-Some-cut-clause-refused c =
    λ e. line_long c.args.fields.now c.args.delimiter c.args.line.now c.loop-i.values.items c.loop-i.i c.loop-i.rest.now c.loop-i.invariant type.Long _ _ (omega arith) c.in-Some-cut.ensures.parts
