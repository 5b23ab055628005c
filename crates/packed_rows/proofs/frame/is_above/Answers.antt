use Rattle.std.proofs.Common.{rules, ◌∙◌, ap, ℤ, int_lt, FitsSigned, to_z, of_z, to_z-of_z, w64}
use Rattle.packed_rows.proofs.AboveLemmas.{above_read}
use Rattle.packed_rows.proofs.frame.is_above.Goals as goal

pub returns : goal.returns
returns c =
    let left : FitsSigned w64 c.args.number = search rules in
    let right : FitsSigned w64 c.long_at.result = search rules in
    ap (λ (z : ℤ). int_lt z (to_z w64 (of_z w64 c.long_at.result))) (to_z-of_z left)
    ∙ ap (λ (z : ℤ). int_lt c.args.number z) (to_z-of_z right)
    ∙ above_read c.args.schema.now c.args.bytes.now c.args.field c.field_at-place.result c.long_at.result c.args.number
    c.requires.long c.field_at-place.ensures.place c.long_at.ensures.value
