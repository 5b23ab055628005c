use Rattle.std.proofs.Common.{◌≡◌, [], All, vec_len}
use Rattle.lot_store.specs.Lots.{LotView, held}
use Rattle.worker_core.proofs.opening.end_lots.Given as goal

abbrev pub invariant-lots : goal.invariant-lots
invariant-lots l = All (λ (lot : LotView). held lot ≡ []) l.lots.items

abbrev pub decreases-lots : goal.decreases-lots
decreases-lots l = vec_len l.lots
