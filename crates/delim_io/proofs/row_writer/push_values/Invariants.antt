use Rattle.std.proofs.Common.{◌≡◌, [], map, take}
use Rattle.csv.specs.Records.{fields_of, partial_of}
use Rattle.flow_types.specs.Records.{tuple_of}
use Rattle.delim_io.specs.ResultText.{value_text}
use Rattle.delim_io.proofs.row_writer.push_values.Given as goal

abbrev pub invariant-loop-number : goal.invariant-loop-number
invariant-loop-number g l = record {
  texts : fields_of l.fields ≡ map value_text (take l.number (tuple_of l.schema (g.X.Span.seen l.row)));
  partial : partial_of l.fields ≡ [];
}
