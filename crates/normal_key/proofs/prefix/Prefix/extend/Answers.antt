use Rattle.std.proofs.Common.{ℕ, List, ◌+◌, ◌≤◌, ◌++◌, length, ap, ◌∙◌, arith}
use Rattle.std.proofs.lemmas.List.{length-take-le}
use Rattle.normal_key.specs.NormalForms.{front}
use Rattle.normal_key.proofs.WrittenLemmas.{extended_is, extended_filled}
use Rattle.normal_key.proofs.prefix.Prefix.extend.Goals as goal

pub invariant_of-self : goal.invariant_of-self
invariant_of-self c =
    let fits : c.self.inside.len + length c.args.more.now ≤ 16 = omega (arith, ap length c.self.view_is, length-take-le c.self.inside.len c.self.inside.bytes (omega (arith, c.self.told, c.self.invariant.0)), c.requires) in
    (fits, extended_filled c.self.inside.bytes c.args.more.now c.put.new.out c.self.inside.len c.self.told fits c.self.invariant.1 c.put.ensures)

pub returns : goal.returns
returns c =
    let fits : c.self.inside.len + length c.args.more.now ≤ 16 = omega (arith, ap length c.self.view_is, length-take-le c.self.inside.len c.self.inside.bytes (omega (arith, c.self.told, c.self.invariant.0)), c.requires) in
    ap front (extended_is c.self.inside.bytes c.args.more.now c.put.new.out c.self.inside.len c.self.told fits c.put.ensures ∙ ap (λ (bs : List ℕ). bs ++ c.args.more.now) c.self.view_is)
