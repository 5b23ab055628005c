use Rattle.flow_types.proofs.TypeLaws.{value_fits}
use Rattle.flow_types.proofs.SoundLaws.{typed_value}
use Rattle.flow_types.proofs.ColumnLaws.{tuple-columns, tuple-append}
use Rattle.flow_types.proofs.laws.types_are_sound.Goals as goal

pub returns : goal.returns
returns c = record {
  fitting = λ fields t e f row typed. value_fits fields t row e f typed;
  values = λ fields t e f row typed. typed_value fields t row.fitting row.values e f typed;
  columns = λ fields t es types row typed. tuple-columns fields t row es types typed;
  joined = tuple-append;
}
