use Rattle.std.proofs.Common.{refl}
use Rattle.fold_laws.proofs.AddingLaws.{merged-comm, merged-assoc, merged-none, any_order, of_pieces}
use Rattle.fold_laws.proofs.laws.parts_merge_in_any_order.Goals as goal

pub returns : goal.returns
returns c = record {
  either_way = merged-comm;
  grouped = merged-assoc;
  none_before = λ a p. refl;
  none_after = merged-none;
  any_order = any_order;
  of_pieces = of_pieces;
}
