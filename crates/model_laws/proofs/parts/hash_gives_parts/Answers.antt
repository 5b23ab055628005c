use Rattle.std.proofs.Common.{refl}
use Rattle.std.proofs.Math.Nat.{mod-lt}
use Rattle.flow_types.specs.Records.{form}
use Rattle.flow_types.specs.Hash.{fnv1a}
use Rattle.model_laws.proofs.parts.hash_gives_parts.Goals as goal

pub returns : goal.returns
returns c = record {
  parts = λ workers some key. mod-lt (fnv1a (form key)) some;
  own = λ key workers worker entries. refl;
}
