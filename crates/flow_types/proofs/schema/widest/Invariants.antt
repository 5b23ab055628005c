use Rattle.std.proofs.Common.{◌≡◌, ◌≤◌, ◌*◌, take}
use Rattle.flow_types.specs.Types.{widest}
use Rattle.flow_types.proofs.schema.widest.Given as goal

abbrev pub invariant-loop-field : goal.invariant-loop-field
invariant-loop-field l = record {
  so_far : l.total ≡ widest (take l.field-index l.fields);
  small : l.total ≤ 65537 * l.field-index;
}
