use Rattle.std.proofs.Common.{◌≡◌, ◌+◌, ◌-◌, ◌<◌, ◌≤◌, length, take}
use Rattle.flow_outside.specs.Blocks.{BothTold}
use Rattle.lot_store.specs.Keeping.{AddsFullPages, AddsText, Keeps, MovesSegments}
use Rattle.lot_store.specs.Stores.{IsSound, held}
use Rattle.lot_store.proofs.stored.StoredPages.write.Given as goal

abbrev pub invariant-pieces : goal.invariant-pieces
invariant-pieces g l = record {
  within : l.at ≤ length l.fn.bytes;
  supply : 0 < length l.purse.pages + length l.self.open_page;
  later : g.D.Spill.fault_count l.fn.disk ≤ g.D.Spill.fault_count l.disk;
  added : BothTold (g.D.Spill.told l.fn.disk) (g.D.Spill.told l.disk) (AddsText l.fn.self l.self (take l.at l.fn.bytes));
  full : BothTold (g.D.Spill.told l.fn.disk) (g.D.Spill.told l.disk) (AddsFullPages l.fn.self l.self l.fn.purse.pages);
  keeps : BothTold (g.D.Spill.told l.fn.disk) (g.D.Spill.told l.disk) (Keeps l.fn.self l.self l.fn.purse.pages l.purse.pages);
  sound : IsSound (g.D.Spill.told l.disk) l.self l.purse.pages;
  segments : MovesSegments l.fn.self l.self l.fn.purse.pages l.purse.pages;
  fits : length l.purse.pages + length (held l.self) ≤ l.purse.room;
  room : l.purse.room ≡ l.fn.purse.room;
  own : l.self.room ≡ l.fn.self.room;
}

abbrev pub decreases-pieces : goal.decreases-pieces
decreases-pieces g l = length l.fn.bytes - l.at
