use Rattle.std.proofs.Common.{◌≡◌, ◌++◌, sym, ap, subst, ◌∙◌}
use Rattle.std.specs.Prelude.{IfOk}
use Rattle.flow_model.specs.Solutions.{last_row}
use Rattle.plain_ops.proofs.SolutionLemmas.{last_row-push}
use Rattle.plain_ops.proofs.solutions.push_greatest.Goals as goal

pub returns-in-Some : goal.returns-in-Some
returns-in-Some c =
    subst (λ last. IfOk c.push_row.result (λ _. c.push_row.new.rows.items ≡ c.args.entries.now.items ++ last))
    (sym (ap last_row (sym c.in_ok-sort_by_rank.ensures ∙ c.in-Some.ensures.items) ∙ last_row-push c.pop.new.self.items c.in-Some.row)) c.push_row.ensures
