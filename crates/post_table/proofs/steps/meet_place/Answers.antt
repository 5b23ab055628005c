use Rattle.std.proofs.Common.{◌≡◌, ℕ, ◌<◌, List, ap, ◌∙◌, arith}
use Rattle.post_table.specs.Pairs.{pair_count}
use Rattle.post_table.specs.Views.{both_of, learned, looked}
use Rattle.post_table.specs.Steps.{Seated}
use Rattle.post_table.specs.declared.view.View.{View}
use Rattle.post_table.proofs.PairLemmas.{workers_near}
use Rattle.post_table.proofs.AllowLemmas.{no_hand, allows_learn, met_main}
use Rattle.post_table.proofs.SeatLemmas.{joins}
use Rattle.post_table.proofs.steps.meet_place.Goals as goal

pub join_seat-requires : goal.join_seat-requires
join_seat-requires c =
    let shared = c.args.boxes.now.shared in
    let w : ℕ = shared.key.workers in
    let near : 0 < pair_count w = workers_near w 0 c.requires.table.2.count.several (omega (arith, c.requires.table.2.count.several)) in
    let words : shared.table_id.words ≡ pair_count w = c.requires.table.2.words in (
      c.requires.table.0,
      c.requires.table.1,
      c.requires.other.hand,
      omega arith,
      joins w shared.key.size shared.key.words.items c.args.place.now.id c.args.place.now.me.0 c.args.other.id c.args.other.me.0 c.requires.idle.live c.requires.idle.holds c.requires.other.holds,
    )

pub load-requires : goal.load-requires
load-requires c =
    let shared = c.args.boxes.now.shared in
    let w : ℕ = shared.key.workers in
    let near : 0 < pair_count w = workers_near w 0 c.requires.table.2.count.several (omega (arith, c.requires.table.2.count.several)) in
    let words : shared.table_id.words ≡ pair_count w = c.requires.table.2.words in
    let e : c.join_seat.new.seat.me.0 ≡ both_of c.args.place.now.me.0 c.args.other.me.0 = ap (λ (m : Seated). m.0) c.join_seat.ensures.2 in (
      c.join_seat.ensures.0 ∙ c.requires.table.0,
      omega arith,
      allows_learn w shared.key.size shared.key.words.items shared.table_id.slots c.join_seat.new.seat.id 0 c.join_seat.new.seat.me near
          (ap (λ (u : View). u.is_spent) e ∙ c.requires.idle.live) (ap (λ (u : View). u.holding) e ∙ c.requires.idle.holds),
    )

pub returns : goal.returns
returns c =
    let v : View = both_of c.args.place.now.me.0 c.args.other.me.0 in
    let hand : c.join_seat.new.seat.me ≡ (v, no_hand) = c.join_seat.ensures.2 ∙ ap (λ (l : List _). (v, l)) c.requires.idle.hand in
    record {
      table = c.load.ensures.0 ∙ c.join_seat.ensures.0;
      main = met_main c.load.result v c.load.new.seat.me
          (c.load.ensures.2.0 ∙ ap (λ (m : Seated). (learned (looked c.load.result m.0), m.1)) hand);
      exchange = c.load.ensures.2.1;
    }
