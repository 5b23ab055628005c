use Rattle.std.proofs.Common.{◌≡◌, ◌<◌, length, take, get_or, subst}
use Rattle.std.specs.Prelude.{IsTrue}
use Rattle.flow_types.specs.Types.{Fields, is_placed, widest}
use Rattle.flow_types.proofs.StartLemmas.{placed_at, placed_past}
use Rattle.flow_types.proofs.schema.Schema.start_of.Goals as goal

pub returns-then-self-number : goal.returns-then-self-number
returns-then-self-number c =
    subst (λ (fs : Fields). c.args.number < length fs → ¬ IsTrue (is_placed fs c.args.number)) c.self.view_is (placed_past _ _ _ c.args.number c.self.invariant.1 c.if-self-number.true) c.requires

pub returns : goal.returns
returns c =
    subst (λ (fs : Fields). c.args.number < length fs → IsTrue (is_placed fs c.args.number) × (get_or c.self.inside.starts c.args.number 0 ≡ widest (take c.args.number fs))) c.self.view_is (placed_at _ _ _ c.args.number c.self.invariant.0 c.self.invariant.1 c.if-self-number.false) c.requires
