use Rattle.std.proofs.Common.{◌≡◌, length}
use Rattle.std.specs.Iterator.Adapters.{enumerate_count, enumerate_source}
use Rattle.std.specs.List.{AllByRecursion}
use Rattle.std.specs.Vec.Iter.{into_iter_items, into_iter_len}
use Rattle.exchange_core.specs.Machine.{run_from, run_of, workers, IsAmong, IsSquare}
use Rattle.exchange_core.proofs.run.run.Given as goal

abbrev pub invariant-loop-place : goal.invariant-loop-place
invariant-loop-place l = record {
  rest_runs : run_from l.state (enumerate_count l.place-iterator) (into_iter_items (enumerate_source l.place-iterator)) ≡ run_of l.fn.w l.fn.events.items;
  rest_among : AllByRecursion (IsAmong l.fn.w) (into_iter_items (enumerate_source l.place-iterator));
  whole : length (into_iter_items (enumerate_source l.place-iterator)) ≡ into_iter_len (enumerate_source l.place-iterator);
  count : workers l.state ≡ l.fn.w;
  square : IsSquare l.state;
}
