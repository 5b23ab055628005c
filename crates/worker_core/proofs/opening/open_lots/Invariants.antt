use Rattle.std.proofs.Common.{◌≡◌, ◌≤◌, replicate, vec_len, vec_capacity}
use Rattle.lot_store.specs.Lots.{empty}
use Rattle.worker_core.proofs.opening.open_lots.Given as goal

abbrev pub invariant-lots : goal.invariant-lots
invariant-lots l = record {
  items : l.lots.items ≡ replicate l.counter (empty l.room l.reach);
  len : vec_len l.lots ≡ l.counter;
  capacity : l.count ≤ vec_capacity l.lots;
}
