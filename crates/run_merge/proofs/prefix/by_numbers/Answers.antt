use Rattle.std.proofs.Common.{sym, ap, ◌∙◌, arith}
use Rattle.std.specs.Ordering.{nat_cmp, ordering_then}
use Rattle.span_bytes.proofs.DecideLemmas.{two_numbers}
use Rattle.run_merge.proofs.PrefixLemmas.{then_decided}
use Rattle.run_merge.proofs.prefix.by_numbers.Goals as goal

pub returns-in-Equal : goal.returns-in-Equal
returns-in-Equal c =
    c.cmp-in-Equal.ensures
    ∙ ap (λ o. ordering_then o (nat_cmp c.args.low c.args.other_low)) (sym c.in-Equal.is ∙ c.cmp.ensures)
    ∙ sym (two_numbers c.args.high c.args.low c.args.other_high c.args.other_low (omega arith) (omega arith) (omega arith) (omega arith))

pub returns-in_default : goal.returns-in_default
returns-in_default c =
    then_decided c.cmp.result (nat_cmp c.args.low c.args.other_low) c.in_default.not-Equal
    ∙ ap (λ o. ordering_then o (nat_cmp c.args.low c.args.other_low)) c.cmp.ensures
    ∙ sym (two_numbers c.args.high c.args.low c.args.other_high c.args.other_low (omega arith) (omega arith) (omega arith) (omega arith))
