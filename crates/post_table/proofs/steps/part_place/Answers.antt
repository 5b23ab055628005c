use Rattle.std.proofs.Common.{◌≡◌, ℕ, ◌<◌, List, sym, ap, subst, ◌∙◌, arith}
use Rattle.atomic_table.specs.Table.{Splits}
use Rattle.post_table.specs.Pairs.{pair_count}
use Rattle.post_table.specs.Views.{chosen, parted, without}
use Rattle.post_table.specs.Rule.{IsPostTable}
use Rattle.post_table.specs.Steps.{Seated}
use Rattle.post_table.specs.declared.view.View.{View}
use Rattle.post_table.proofs.PairLemmas.{workers_near}
use Rattle.post_table.proofs.AllowLemmas.{no_hand, allows_choose, parted_main}
use Rattle.post_table.proofs.SeatLemmas.{splits}
use Rattle.post_table.proofs.steps.part_place.Goals as goal

pub load-requires : goal.load-requires
load-requires c =
    let shared = c.args.boxes.now.shared in
    let w : ℕ = shared.key.workers in
    let near : c.args.worker < pair_count w = workers_near w c.args.worker c.requires.table.1.count.several c.requires.home.0 in
    let words : shared.table_id.words ≡ pair_count w = c.requires.table.1.words in (
      c.requires.table.0,
      omega arith,
      allows_choose w shared.key.size shared.key.words.items shared.table_id.slots c.args.place.now.id c.args.worker c.args.place.now.me near c.requires.idle.live c.requires.idle.holds,
    )

pub split_seat-requires : goal.split_seat-requires
split_seat-requires c =
    let shared = c.args.boxes.now.shared in
    let w : ℕ = shared.key.workers in
    let v : View = c.args.place.now.me.0 in
    let near : c.args.worker < pair_count w = workers_near w c.args.worker c.requires.table.1.count.several c.requires.home.0 in
    let words : shared.table_id.words ≡ pair_count w = c.requires.table.1.words in
    let chose : View = chosen c.args.worker c.load.result v in
    let e : c.load.new.seat.me.0 ≡ chose = ap (λ (m : Seated). m.0) c.load.ensures.2 in (
      c.load.ensures.0 ∙ c.requires.table.0,
      omega arith,
      subst (λ (u : View). Splits (IsPostTable w shared.key.size shared.key.words.items) c.load.new.seat.id u (without u.number u) (parted u.number u)) (sym e)
          (splits w shared.key.size shared.key.words.items c.load.new.seat.id chose c.requires.idle.live c.requires.idle.holds c.requires.home.1),
    )

pub returns : goal.returns
returns c =
    let v : View = c.args.place.now.me.0 in
    let e : c.load.new.seat.me.0 ≡ chosen c.args.worker c.load.result v = ap (λ (m : Seated). m.0) c.load.ensures.2 in
    let hand : c.load.new.seat.me.1 ≡ no_hand = ap (λ (m : Seated). m.1) c.load.ensures.2 ∙ c.requires.idle.hand in
    record {
      table = (c.split_seat.ensures.0 ∙ c.load.ensures.0, c.split_seat.ensures.3 ∙ c.load.ensures.0);
      main = parted_main c.args.worker c.load.result v c.split_seat.new.seat.me
          (c.split_seat.ensures.2 ∙ ap (λ (l : List _). (without c.load.new.seat.me.0.number c.load.new.seat.me.0, l)) hand
          ∙ ap (λ (u : View). (without u.number u, no_hand)) e);
      seat = c.split_seat.ensures.4 ∙ ap (λ (u : View). (parted u.number u, no_hand)) e;
    }
