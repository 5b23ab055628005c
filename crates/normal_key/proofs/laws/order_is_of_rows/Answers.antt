use Rattle.std.proofs.Common.{refl}
use Rattle.normal_key.proofs.FitLemmas.{tells_records}
use Rattle.normal_key.proofs.laws.order_is_of_rows.Goals as goal

pub returns : goal.returns
returns c = record { records = tells_records; rank = λ key items. refl }
