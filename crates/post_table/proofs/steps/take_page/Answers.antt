use Rattle.std.proofs.Common.{◌≡◌, ◌<◌, ◌%◌, ◌*◌, ◌+◌, ◌∙◌, arith}
use Rattle.post_table.specs.Pairs.{pair_count}
use Rattle.post_table.proofs.AllowLemmas.{allows_look_take, takes_after, in_hand_is, taken_end, TakenEnd, stays_taken}
use Rattle.post_table.proofs.steps.take_page.Goals as goal

pub load-found-requires : goal.load-found-requires
load-found-requires c =
    let shared = c.args.boxes.now.shared in
    let near : c.args.pair < pair_count shared.key.workers = c.requires.receiver.0 in
    let words : shared.table_id.words ≡ pair_count shared.key.workers = c.requires.table.1.words in (
      c.requires.table.0,
      omega arith,
      allows_look_take shared.key.workers shared.key.size shared.key.words.items shared.table_id.slots c.args.place.now.id c.args.pair c.args.place.now.me
          c.requires.idle.hand near c.requires.idle.live c.requires.idle.holds c.requires.receiver.1,
    )

pub exchange-page-requires : goal.exchange-page-requires
exchange-page-requires c =
    let odd : c.load-found.result % 2 ≡ 1 = omega arith in
    let t = c.load-found.ensures.2.full odd in
    (c.load-found.ensures.0 ∙ c.requires.table.0, (t.segment, in_hand_is c.args.pair t.segment c.load-found.new.seat.me.1 t.hand))

pub store-requires : goal.store-requires
store-requires c =
    let shared = c.args.boxes.now.shared in
    let near : c.args.pair < pair_count shared.key.workers = c.requires.receiver.0 in
    let words : shared.table_id.words ≡ pair_count shared.key.workers = c.requires.table.1.words in
    let odd : c.load-found.result % 2 ≡ 1 = omega arith in
    let t = c.load-found.ensures.2.full odd in (
      c.exchange-page.ensures.0 ∙ c.load-found.ensures.0 ∙ c.requires.table.0,
      omega arith,
      takes_after shared.key.workers shared.key.size shared.key.words.items shared.table_id.slots _ c.args.pair c.load-found.result _ c.args.place.now.me.0
          c.load-found.new.seat.me c.exchange-page.new.seat.me c.args.spare t c.exchange-page.ensures.3 near odd c.requires.receiver.1 c.requires.sized (omega arith),
    )

pub returns : goal.returns
returns c =
    let odd : c.load-found.result % 2 ≡ 1 = omega arith in
    let t = c.load-found.ensures.2.full odd in
    let end : TakenEnd c.args.pair c.exchange-page.result c.args.spare c.args.place.now.me.0 c.store.new.seat.me =
    taken_end c.args.boxes.now.shared.table_id.slots c.args.pair c.load-found.result 0 c.args.place.now.me.0 c.load-found.new.seat.me c.exchange-page.new.seat.me c.store.new.seat.me
    c.exchange-page.result c.args.spare t c.exchange-page.ensures.2 c.exchange-page.ensures.3 c.store.ensures.2 odd in
    record { table = c.store.ensures.0 ∙ c.exchange-page.ensures.0 ∙ c.load-found.ensures.0; stays = stays_taken c.args.pair c.args.spare.id c.exchange-page.result.id (2 * c.exchange-page.result.id + 1) c.exchange-page.result.bytes c.args.place.now.me c.store.new.seat.me c.requires.idle end.view; ok = (end.sized, end.view); err = tt }
