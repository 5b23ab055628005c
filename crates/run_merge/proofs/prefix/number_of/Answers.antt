use Rattle.std.proofs.Common.{List, ℕ, take, ap, ◌∙◌, arith}
use Rattle.std.specs.Int.{from_be_bytes, w64}
use Rattle.std.proofs.lemmas.Nat.{be_bytes_8}
use Rattle.std.proofs.lemmas.List.{take_all}
use Rattle.run_merge.proofs.prefix.number_of.Goals as goal

pub returns : goal.returns
returns c =
    be_bytes_8 c.args.bytes.now c.from_be_bytes.result c.requires (λ i. omega (arith, (c.type_inv.bytes i).fits))
    (c.from_be_bytes.ensures ∙ ap (λ (bs : List ℕ). from_be_bytes w64 bs) (c.in-Some.ensures.cases.same ∙ take_all 8 c.args.bytes.now (omega (arith, c.requires))))
