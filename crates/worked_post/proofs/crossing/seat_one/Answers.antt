use Rattle.std.proofs.Common.{ℕ, not, ◌==◌, List, ◌∙◌, ap, filter}
use Rattle.post_table.specs.declared.view.View.{View}
use Rattle.worked_post.proofs.CrowdLemmas.{below_without}
use Rattle.worked_post.proofs.crossing.seat_one.Goals as goal

pub returns-clause-left : goal.returns-clause-left
returns-clause-left c =
    ap (λ (v : View). v.here) c.part-seat.ensures.main ∙ ap (λ (l : List ℕ). filter (λ (i : ℕ). not (i == c.args.worker)) l) c.requires.here ∙ below_without c.args.worker
