-- A record that fits into the open page.
use Rattle.lot_store.proofs.HereLemmas.{added_here, moves_here}
use Rattle.lot_store.proofs.LotLemmas.{keeps_same_told, sound_on}
use Rattle.lot_store.proofs.FullLemmas.{full_none}
use Rattle.lot_store.proofs.stored.StoredPages.append.Goals as goal

pub returns-then-has_room-clause-added : goal.returns-then-has_room-clause-added
returns-then-has_room-clause-added g c =
    added_here _ c.args.self.now c.put_here.new.self _ c.put_here.ensures.kept c.put_here.ensures.run c.put_here.ensures.added

pub returns-then-has_room-clause-full : goal.returns-then-has_room-clause-full
returns-then-has_room-clause-full g c =
    full_none _ c.args.self.now c.put_here.new.self c.args.purse.now.pages c.put_here.ensures.kept c.put_here.ensures.run

pub returns-then-has_room-clause-keeps : goal.returns-then-has_room-clause-keeps
returns-then-has_room-clause-keeps g c =
    keeps_same_told _ c.args.self.now c.put_here.new.self c.args.purse.now.pages c.args.purse.now.pages (moves_here c.args.self.now c.put_here.new.self c.args.purse.now.pages c.put_here.ensures.kept c.put_here.ensures.segments) c.put_here.ensures.run

pub returns-then-has_room-clause-segments : goal.returns-then-has_room-clause-segments
returns-then-has_room-clause-segments g c =
    moves_here c.args.self.now c.put_here.new.self c.args.purse.now.pages c.put_here.ensures.kept c.put_here.ensures.segments

pub returns-then-has_room-clause-sound : goal.returns-then-has_room-clause-sound
returns-then-has_room-clause-sound g c =
    sound_on _ _ c.args.self.now c.put_here.new.self c.args.purse.now.pages c.args.purse.now.pages c.requires.sound
    (keeps_same_told _ c.args.self.now c.put_here.new.self c.args.purse.now.pages c.args.purse.now.pages (moves_here c.args.self.now c.put_here.new.self c.args.purse.now.pages c.put_here.ensures.kept c.put_here.ensures.segments) c.put_here.ensures.run)
