-- One record more, and the ends of the loop.
use Rattle.std.proofs.Common.{Bool, ℕ, List, ◌∙◌, arith, refl, subst}
use Rattle.paged_view.specs.Streams.{Advances}
use Rattle.lot_store.specs.Lots.{IsLeft}
use Rattle.worker_storage.proofs.CountLemmas.{counted_all, counted_none, counted_one, known_one, reads_nothing, reads_on}
use Rattle.worker_storage.proofs.counting.count_left.Goals as goal

pub rows-init : goal.rows-init
rows-init g c = record {
  ready = c.requires.ready;
  tells = refl;
  later = omega arith;
  known = c.requires.known;
  reads = λ purse. reads_nothing _ purse c.args.lot.now;
  counted = λ rows left. counted_none rows _ left;
}

pub rows-preserved : goal.rows-preserved
rows-preserved g c =
    let advances = subst (λ (more : Bool). (rows : List (List ℕ)) → IsLeft c.rows.lot (g.D.Spill.told c.rows.disk) rows → Advances rows more c.read_next.new.self.feed.shown (IsLeft c.read_next.new.self (g.D.Spill.told c.read_next.new.disk))) c.in-Ok-true.field-0-test c.in-Ok-true.ensures.rows in
    record {
      ready = c.read_next.ensures.shows.ready;
      tells = c.read_next.ensures.disk.told_still ∙ c.rows.invariant.tells;
      later = omega (arith, c.rows.invariant.later, c.read_next.ensures.cause.cause.later);
      known = known_one _ _ c.rows.lot c.read_next.new.self c.read_next.new.self.feed.shown c.read_next.ensures.disk.told_still c.rows.invariant.known advances;
      reads = λ purse. reads_on _ _ _ purse purse purse c.args.lot.now c.rows.lot c.read_next.new.self (c.rows.invariant.reads purse) (c.read_next.ensures.preserves purse);
      counted = λ rows left. counted_one c.rows.count c.saturating_add-count.result rows (IsLeft c.rows.lot (g.D.Spill.told c.rows.disk)) (IsLeft c.read_next.new.self (g.D.Spill.told c.read_next.new.disk)) c.read_next.new.self.feed.shown c.saturating_add-count.ensures advances (c.rows.invariant.counted rows left);
    }

pub returns-in-Ok-false-clause-count : goal.returns-in-Ok-false-clause-count
returns-in-Ok-false-clause-count g c =
    let advances = subst (λ (more : Bool). (rows : List (List ℕ)) → IsLeft c.rows.lot (g.D.Spill.told c.rows.disk) rows → Advances rows more c.read_next.new.self.feed.shown (IsLeft c.read_next.new.self (g.D.Spill.told c.read_next.new.disk))) c.in-Ok-false.field-0-test c.in-Ok-false.ensures.rows in
    λ rows left. counted_all c.rows.count rows (IsLeft c.rows.lot (g.D.Spill.told c.rows.disk)) (IsLeft c.read_next.new.self (g.D.Spill.told c.read_next.new.disk)) c.read_next.new.self.feed.shown advances (c.rows.invariant.counted rows left)

pub returns-in-Ok-false-clause-reads : goal.returns-in-Ok-false-clause-reads
returns-in-Ok-false-clause-reads g c = λ purse.
    reads_on _ _ _ purse purse purse c.args.lot.now c.rows.lot c.read_next.new.self (c.rows.invariant.reads purse) (c.read_next.ensures.preserves purse)

pub returns-in-Err-clause-reads : goal.returns-in-Err-clause-reads
returns-in-Err-clause-reads g c = λ purse.
    reads_on _ _ _ purse purse purse c.args.lot.now c.rows.lot c.read_next.new.self (c.rows.invariant.reads purse) (c.read_next.ensures.preserves purse)
