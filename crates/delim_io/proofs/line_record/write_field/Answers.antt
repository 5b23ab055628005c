use Rattle.std.proofs.Common.{rules, ◌≡◌, ◌∷◌, [], ◌++◌, length, take, drop, option_map, ap, sym, ◌∙◌, arith}
use Rattle.flow_types.specs.declared.value.Value.TheVariants as value
use Rattle.flow_types.specs.Records.{bool_byte, value_form}
use Rattle.flow_types.specs.Types.{width}
use Rattle.delim_io.specs.Fields.{field_value}
use Rattle.delim_io.proofs.line_record.write_field.Goals as goal

pub returns-in-Some-clause-value : goal.returns-in-Some-clause-value
returns-in-Some-clause-value c =
    let written : c.write_bytes.new.out ≡ take c.args.start c.args.out.now ++ value_form (value.Long c.in-Some.n) ++ drop c.write_bytes.result c.args.out.now = search rules in (
      value.Long c.in-Some.n,
      ap (λ f. field_value f c.args.text.now) c.in-Long.is ∙ ap (option_map value.Long) (sym c.read_long.ensures ∙ c.in-Some.is),
      omega (arith, c.write_bytes.ensures.end, ap length c.to_be_bytes.ensures),
      omega (arith, c.write_bytes.ensures.end, ap length c.to_be_bytes.ensures, ap width c.in-Long.is),
      written,
    )

pub returns-in-Some-read_bool-clause-value : goal.returns-in-Some-read_bool-clause-value
returns-in-Some-read_bool-clause-value c =
    let bytes : c.from.result ∷ [] ≡ bool_byte c.in-Some-read_bool.b ∷ [] = search rules in (
      value.Bool c.in-Some-read_bool.b,
      ap (λ f. field_value f c.args.text.now) c.in-Bool.is ∙ ap (option_map value.Bool) (sym c.read_bool.ensures ∙ c.in-Some-read_bool.is),
      omega (arith, c.write_bytes-in-Some-read_bool.ensures.end),
      omega (arith, c.write_bytes-in-Some-read_bool.ensures.end, ap width c.in-Bool.is),
      c.write_bytes-in-Some-read_bool.ensures.bytes ∙ ap (λ xs. take c.args.start c.args.out.now ++ xs ++ drop c.write_bytes-in-Some-read_bool.result c.args.out.now) bytes,
    )
