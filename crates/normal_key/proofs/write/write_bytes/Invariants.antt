use Rattle.std.proofs.Common.{map, take}
use Rattle.normal_key.specs.NormalForms.{Adds, turned}
use Rattle.normal_key.proofs.write.write_bytes.Given as goal

abbrev pub invariant-loop-byte : goal.invariant-loop-byte
invariant-loop-byte l = Adds l.fn.prefix l.prefix (map (turned l.down) (take l.byte-index l.bytes))
