use Rattle.std.proofs.Common.{◌≡◌, ℕ, ◌<◌, sym, ap, subst, ◌∙◌}
use Rattle.exchange_core.specs.Machine.{IsPair}
use Rattle.post_table.specs.Seats.{PostView, SeatView}
use Rattle.post_table.proofs.TieLemmas.{receiver_ready}
use Rattle.post_table.proofs.post.Post.got.Goals as goal

pub take_page-requires-clause-receiver : goal.take_page-requires-clause-receiver
take_page-requires-clause-receiver c =
    let workers : c.self.inside.workers ≡ c.args.self.now.workers = ap (λ (p : PostView). p.workers) c.self.view_is in
    let count : c.seat.inside.place.me.0.count ≡ c.self.inside.workers = ap (λ (s : SeatView). s.view.count) c.seat.view_is ∙ c.requires.made.workers ∙ sym workers in
    let pair : IsPair c.self.inside.workers c.args.p c.seat.inside.number = record { differ = λ e. c.requires.other.1 (e ∙ sym c.seat.invariant.1 ∙ ap (λ (s : SeatView). s.view.number) c.seat.view_is); poster = subst (λ (z : ℕ). c.args.p < z) (sym workers) c.requires.other.0; receiver = subst (λ (z : ℕ). c.seat.inside.number < z) count c.seat.invariant.3 } in
    receiver_ready _ _ _ _ _ _ c.self.invariant.1 c.number-pair.ensures pair c.seat.invariant.2
