use Rattle.std.proofs.Common.{ℕ, ap, sym, ◌∙◌, subst}
use Rattle.segment_core.specs.Segments.{segment_sum}
use Rattle.flow_outside.specs.Told.{IfTold}
use Rattle.page_feed.specs.Feeds.{HasBlockLeft, lent, block_or}
use Rattle.lot_store.specs.Lots.{LotView, pages_of}
use Rattle.lot_store.proofs.RestLemmas.{lot_of}
use Rattle.lot_store.proofs.ReadLemmas.{pages_moved, reads_block, same_block, segments_moved, stands_moved}
use Rattle.lot_store.proofs.lot.Lot.step.Goals as goal

pub returns-in-Ok-clause-segments : goal.returns-in-Ok-clause-segments
returns-in-Ok-clause-segments g c =
    segments_moved c.args.self.now (lot_of c.self.inside.stored c.advance.new.self (block_or c.advance.new.self.run c.self.inside.last_block)) (pages_moved c.self.inside.stored c.self.inside.feed c.advance.new.self c.advance.ensures.keeps.kept c.advance.ensures.keeps.open_page ∙ ap pages_of c.self.view_is) (λ h. c.advance.ensures.keeps.weights h ∙ ap (λ (v : LotView). segment_sum h (lent v.feed)) c.self.view_is)

pub returns-in-Ok-clause-stands : goal.returns-in-Ok-clause-stands
returns-in-Ok-clause-stands g c =
    stands_moved _ c.args.self.now (lot_of c.self.inside.stored c.advance.new.self (block_or c.advance.new.self.run c.self.inside.last_block)) (pages_moved c.self.inside.stored c.self.inside.feed c.advance.new.self c.advance.ensures.keeps.kept c.advance.ensures.keeps.open_page ∙ ap pages_of c.self.view_is) (ap (λ (v : LotView). v.stored.run) c.self.view_is) (λ h. c.advance.ensures.keeps.weights h ∙ ap (λ (v : LotView). segment_sum h (lent v.feed)) c.self.view_is)
    (subst (λ (v : LotView). IfTold (g.D.Spill.told c.args.disk.now) (λ m. (block : ℕ) → HasBlockLeft m c.advance.new.self.run block → HasBlockLeft m v.feed.run block)) c.self.view_is c.advance.ensures.keeps.among)

pub returns-in-Err-clause-segments : goal.returns-in-Err-clause-segments
returns-in-Err-clause-segments g c =
    segments_moved c.args.self.now (lot_of c.self.inside.stored c.advance.new.self (block_or c.advance.new.self.run c.block-self-inside.result)) (pages_moved c.self.inside.stored c.self.inside.feed c.advance.new.self c.advance.ensures.keeps.kept c.advance.ensures.keeps.open_page ∙ ap pages_of c.self.view_is) (λ h. c.advance.ensures.keeps.weights h ∙ ap (λ (v : LotView). segment_sum h (lent v.feed)) c.self.view_is)

pub returns-in-Err-clause-stands : goal.returns-in-Err-clause-stands
returns-in-Err-clause-stands g c =
    stands_moved _ c.args.self.now (lot_of c.self.inside.stored c.advance.new.self (block_or c.advance.new.self.run c.block-self-inside.result)) (pages_moved c.self.inside.stored c.self.inside.feed c.advance.new.self c.advance.ensures.keeps.kept c.advance.ensures.keeps.open_page ∙ ap pages_of c.self.view_is) (ap (λ (v : LotView). v.stored.run) c.self.view_is) (λ h. c.advance.ensures.keeps.weights h ∙ ap (λ (v : LotView). segment_sum h (lent v.feed)) c.self.view_is)
    (subst (λ (v : LotView). IfTold (g.D.Spill.told c.args.disk.now) (λ m. (block : ℕ) → HasBlockLeft m c.advance.new.self.run block → HasBlockLeft m v.feed.run block)) c.self.view_is c.advance.ensures.keeps.among)

pub returns-in-Ok-clause-read : goal.returns-in-Ok-clause-read
returns-in-Ok-clause-read g c = reads_block c.advance.new.self.run c.self.inside.last_block

pub returns-in-Err-clause-read : goal.returns-in-Err-clause-read
returns-in-Err-clause-read g c = reads_block c.advance.new.self.run c.block-self-inside.result

pub returns-in-Err-clause-known : goal.returns-in-Err-clause-known
returns-in-Err-clause-known g c = λ block is.
    c.advance.ensures.cause.1 block (c.in-Err.is ∙ is) ∙ sym (same_block c.advance.new.self.run c.block-self-inside.result c.block-self-inside.ensures)
