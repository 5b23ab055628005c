-- Two lots that are copied into a third.
use Rattle.std.specs.Prelude.{◌+◌, ◌<◌, ◌≤◌, List, length}
use Rattle.segment_core.specs.Segments.{PurseView}
use Rattle.lot_store.specs.Lots.{LotView, held}
use Rattle.lot_store.specs.Storage.{held_count, lot_at, rooms}

-- The first two lots rest, and the purse has segments to read either, whatever the third then keeps.
pub record MayCopy (purse : PurseView) (lots : List LotView) (d : LotView) : Type 0 where
  pub first : length (held (lot_at lots 0 d)) ≤ (lot_at lots 0 d).stored.room
  pub second : length (held (lot_at lots 1 d)) ≤ (lot_at lots 1 d).stored.room
  pub supply : (lot_at lots 0 d).feed.reach < length purse.pages
  pub budget : (lot_at lots 1 d).feed.reach + rooms lots < length purse.pages + held_count lots
