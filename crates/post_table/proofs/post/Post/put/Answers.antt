use Rattle.std.proofs.Common.{◌≡◌, ℕ, ◌<◌, sym, ap, subst, ◌∙◌}
use Rattle.exchange_core.specs.Machine.{IsPair}
use Rattle.post_table.specs.Seats.{PostView, SeatView}
use Rattle.post_table.proofs.TieLemmas.{poster_ready}
use Rattle.post_table.proofs.post.Post.put.Goals as goal

pub post_page-requires-clause-poster : goal.post_page-requires-clause-poster
post_page-requires-clause-poster c =
    let workers : c.self.inside.workers ≡ c.args.self.now.workers = ap (λ (p : PostView). p.workers) c.self.view_is in
    let count : c.seat.inside.place.me.0.count ≡ c.self.inside.workers = ap (λ (s : SeatView). s.view.count) c.seat.view_is ∙ c.requires.made.workers ∙ sym workers in
    let pair : IsPair c.self.inside.workers c.seat.inside.number c.args.c = record { differ = λ e. c.requires.other.1 (sym e ∙ sym c.seat.invariant.1 ∙ ap (λ (s : SeatView). s.view.number) c.seat.view_is); poster = subst (λ (z : ℕ). c.seat.inside.number < z) count c.seat.invariant.3; receiver = subst (λ (z : ℕ). c.args.c < z) (sym workers) c.requires.other.0 } in
    poster_ready _ _ _ _ _ _ c.self.invariant.1 c.number-pair.ensures pair c.seat.invariant.2
