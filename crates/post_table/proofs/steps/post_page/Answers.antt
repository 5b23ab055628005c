use Rattle.std.proofs.Common.{◌≡◌, ◌<◌, ◌%◌, ◌*◌, ◌∙◌, arith}
use Rattle.post_table.specs.Pairs.{pair_count}
use Rattle.post_table.proofs.AllowLemmas.{allows_look_post, posts_after, in_hand_is, posted_end, PostedEnd, stays_posted}
use Rattle.post_table.proofs.steps.post_page.Goals as goal

pub load-found-requires : goal.load-found-requires
load-found-requires c =
    let shared = c.args.boxes.now.shared in
    let near : c.args.pair < pair_count shared.key.workers = c.requires.poster.0 in
    let words : shared.table_id.words ≡ pair_count shared.key.workers = c.requires.table.1.words in (
      c.requires.table.0,
      omega arith,
      allows_look_post shared.key.workers shared.key.size shared.key.words.items shared.table_id.slots c.args.place.now.id c.args.pair c.args.place.now.me
          c.requires.idle.hand near c.requires.idle.live c.requires.idle.holds c.requires.poster.1,
    )

pub exchange-spare-requires : goal.exchange-spare-requires
exchange-spare-requires c =
    let even : c.load-found.result % 2 ≡ 0 = omega arith in
    let t = c.load-found.ensures.2.empty even in
    (c.load-found.ensures.0 ∙ c.requires.table.0, (t.segment, in_hand_is c.args.pair t.segment c.load-found.new.seat.me.1 t.hand))

pub store-requires : goal.store-requires
store-requires c =
    let shared = c.args.boxes.now.shared in
    let near : c.args.pair < pair_count shared.key.workers = c.requires.poster.0 in
    let words : shared.table_id.words ≡ pair_count shared.key.workers = c.requires.table.1.words in
    let even : c.load-found.result % 2 ≡ 0 = omega arith in
    let t = c.load-found.ensures.2.empty even in (
      c.exchange-spare.ensures.0 ∙ c.load-found.ensures.0 ∙ c.requires.table.0,
      omega arith,
      posts_after shared.key.workers shared.key.size shared.key.words.items shared.table_id.slots _ c.args.pair c.load-found.result _ c.args.place.now.me.0
          c.load-found.new.seat.me c.exchange-spare.new.seat.me c.args.page t c.exchange-spare.ensures.3 near even c.requires.poster.1 c.requires.sized (omega arith),
    )

pub returns : goal.returns
returns c =
    let even : c.load-found.result % 2 ≡ 0 = omega arith in
    let t = c.load-found.ensures.2.empty even in
    let end : PostedEnd c.args.pair c.args.page c.exchange-spare.result c.args.place.now.me.0 c.store.new.seat.me =
    posted_end c.args.boxes.now.shared.table_id.slots c.args.pair c.load-found.result 0 c.args.place.now.me.0 c.load-found.new.seat.me c.exchange-spare.new.seat.me c.store.new.seat.me
    c.args.page c.exchange-spare.result t c.exchange-spare.ensures.2 c.exchange-spare.ensures.3 c.store.ensures.2 even in
    record { table = c.store.ensures.0 ∙ c.exchange-spare.ensures.0 ∙ c.load-found.ensures.0; stays = stays_posted c.args.pair c.exchange-spare.result.id (2 * c.exchange-spare.result.id) c.args.page c.args.place.now.me c.store.new.seat.me c.requires.idle end.view; ok = (end.sized, end.view); err = tt }
