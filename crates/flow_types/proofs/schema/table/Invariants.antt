use Rattle.std.proofs.Common.{◌≡◌, ℕ, ◌≤◌, ◌<◌, ◌*◌, take, get_or, length}
use Rattle.std.specs.Prelude.{IsTrue}
use Rattle.flow_types.specs.Types.{widest, is_placed}
use Rattle.flow_types.proofs.schema.table.Given as goal

abbrev pub invariant-loop-i : goal.invariant-loop-i
invariant-loop-i l = record {
  room : length l.starts ≡ 32;
  placed : IsTrue (is_placed l.fields l.i);
  start : l.start ≡ widest (take l.i l.fields);
  small : l.start ≤ 8 * l.i;
  begins : (k : ℕ) → k < l.i → get_or l.starts k 0 ≡ widest (take k l.fields);
}
