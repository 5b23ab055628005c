use Rattle.std.proofs.Common.{◌≡◌, [], map, take}
use Rattle.csv.specs.Records.{fields_of, partial_of}
use Rattle.delim_io.specs.ResultText.{value_text}
use Rattle.delim_io.proofs.result_text.push_fields.Given as goal

abbrev pub invariant-loop-value : goal.invariant-loop-value
invariant-loop-value l = record {
  texts : fields_of l.fields ≡ map value_text (take l.value-index l.values);
  partial : partial_of l.fields ≡ [];
}
