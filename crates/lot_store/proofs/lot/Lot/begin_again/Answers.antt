use Rattle.std.proofs.Common.{◌+◌, ◌≤◌, length, ap, sym, ◌∙◌, arith, subst}
use Rattle.page_feed.specs.Feeds.{FeedView}
use Rattle.lot_store.specs.Lots.{held}
use Rattle.lot_store.proofs.RestLemmas.{back_count, lot_fits}
use Rattle.lot_store.proofs.ReadLemmas.{keeps_rewound, moves_rewound, none_begun, rows_rewound, sound_rewound}
use Rattle.lot_store.proofs.lot.Lot.begin_again.Goals as goal

pub begin-requires-clause-supply : goal.begin-requires-clause-supply
begin-requires-clause-supply g c =
    omega (arith, ap (λ (f : FeedView). f.reach) c.stop.ensures.feed, back_count c.args.self.now c.args.purse.now.pages c.stop.new.purse.pages c.stop.ensures.segments, c.requires.supply)

pub returns-clause-rows : goal.returns-clause-rows
returns-clause-rows g c =
    rows_rewound _ c.args.self.now c.stop.new.self c.begin.new.self c.args.purse.now.pages c.stop.new.purse.pages c.begin.new.purse.pages c.stop.ensures.stored (ap (λ (f : FeedView). f.reach) c.stop.ensures.feed) c.stop.ensures.segments c.begin.ensures.begins c.begin.ensures.segments c.requires.sound

pub returns-clause-block : goal.returns-clause-block
returns-clause-block g c = none_begun c.stop.new.self.stored.run c.begin.new.self.feed.run c.begin.ensures.begins.begins

pub returns-clause-keeps : goal.returns-clause-keeps
returns-clause-keeps g c =
    keeps_rewound _ c.args.self.now c.stop.new.self c.begin.new.self c.args.purse.now.pages c.stop.new.purse.pages c.begin.new.purse.pages c.stop.ensures.stored c.stop.ensures.segments c.begin.ensures.begins c.begin.ensures.segments

pub returns-clause-sound : goal.returns-clause-sound
returns-clause-sound g c =
    sound_rewound _ c.args.self.now c.stop.new.self c.begin.new.self c.args.purse.now.pages c.stop.new.purse.pages c.begin.new.purse.pages c.stop.ensures.stored c.stop.ensures.segments c.begin.ensures.begins c.begin.ensures.segments c.requires.sound

pub returns-clause-fits : goal.returns-clause-fits
returns-clause-fits g c =
    subst (λ r. length c.begin.new.purse.pages + length (held c.begin.new.self) ≤ r) (sym (c.begin.ensures.room ∙ c.stop.ensures.room))
    (lot_fits c.args.self.now c.begin.new.self c.args.purse.now.pages c.begin.new.purse.pages c.args.purse.now.room (moves_rewound c.args.self.now c.stop.new.self c.begin.new.self c.args.purse.now.pages c.stop.new.purse.pages c.begin.new.purse.pages c.stop.ensures.stored c.stop.ensures.segments c.begin.ensures.begins c.begin.ensures.segments) c.requires.room)
