use Rattle.std.proofs.Common.{◌≡◌, ◌-◌, length}
use Rattle.worked_records.proofs.pages.read_all.Given as goal

abbrev pub invariant-rows : goal.invariant-rows
invariant-rows g l = record {
  pages : l.reader.pages ≡ l.fn.reader.pages;
  room : l.reader.room ≡ l.fn.reader.room;
}

abbrev pub decreases-rows : goal.decreases-rows
decreases-rows g l = length l.rows - l.done
