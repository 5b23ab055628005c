-- The laws are lemmas.
use Rattle.lot_store.proofs.StorageLaws.{budget_kept, freed_all, left_kept_on, preserves_join, preserves_more, preserves_none, preserves_within, ready_after, rows_kept_on}
use Rattle.lot_store.proofs.laws.storage_laws.Goals as goal

pub returns : goal.returns
returns c = record {
  nothing = preserves_none;
  joins = preserves_join;
  more = preserves_more;
  parts = λ places a b d touched written tidy differ lows count same p. preserves_within places a b d differ lows count same touched written tidy p;
  ready = λ a b touched written tidy k. ready_after a b touched written tidy k.preserves k.ready;
  budget = budget_kept;
  rows = rows_kept_on;
  left = left_kept_on;
  freed = freed_all;
}
