-- One row more, and the ends of the loop.
use Rattle.std.proofs.Common.{arith, sym, subst, ℕ, List, true, false, Bool}
use Rattle.flow_outside.specs.Told.{IfTold}
use Rattle.paged_view.specs.Streams.{Advances}
use Rattle.lot_store.specs.Lots.{IsLeft}
use Rattle.row_pipe.specs.Pipes.{ShowsTuple}
use Rattle.row_pipe.proofs.Passing.{passes_join, passes_read, passes_written, places_on}
use Rattle.row_pipe.proofs.Turning.{advances_at, gives_end, goes_at, goes_on, known_now, shown_now}
use Rattle.row_pipe.proofs.pipe.pass_all.Goals as goal

pub read_next-requires-clause-known : goal.read_next-requires-clause-known
read_next-requires-clause-known g c =
    known_now c.args.p.now.takes c.args.p.now.work _ _ c.args.input.now c.rows.input c.args.out.now c.rows.out c.args.purse.now.pages c.requires.places c.requires.left c.rows.invariant.goes

pub give_head-requires-clause-places : goal.give_head-requires-clause-places
give_head-requires-clause-places g c =
    places_on _ _ c.args.p.now.takes c.args.p.now.work c.args.input.now c.read_next.new.self c.args.out.now c.rows.out c.args.purse.now c.rows.purse
    (passes_join _ _ _ c.args.input.now c.rows.input c.read_next.new.self c.args.out.now c.rows.out c.rows.out c.args.purse.now c.rows.purse c.rows.purse c.rows.invariant.passes
    (passes_read _ _ c.rows.input c.read_next.new.self c.rows.out c.rows.purse c.rows.purse (c.read_next.ensures.preserves c.rows.purse)))
    c.requires.places

pub give_head-requires-clause-shown : goal.give_head-requires-clause-shown
give_head-requires-clause-shown g c =
    subst (λ o. IfTold o (λ m. ShowsTuple c.args.p.now.takes c.read_next.new.self)) (sym c.read_next.ensures.disk.told_still)
    (shown_now c.args.p.now.takes c.args.p.now.work _ _ c.args.input.now c.rows.input c.read_next.new.self c.args.out.now c.rows.out c.args.purse.now.pages (IsLeft c.read_next.new.self (g.D.Spill.told c.read_next.new.disk)) c.requires.places c.requires.left c.rows.invariant.goes
    (subst (λ (more : Bool). (rows : List (List ℕ)) → IsLeft c.rows.input (g.D.Spill.told c.rows.disk) rows → Advances rows more c.read_next.new.self.feed.shown (IsLeft c.read_next.new.self (g.D.Spill.told c.read_next.new.disk))) c.in-Ok-true.field-0-test c.in-Ok-true.ensures.rows))

pub rows-preserved : goal.rows-preserved
rows-preserved g c =
    let read = passes_join _ _ _ c.args.input.now c.rows.input c.read_next.new.self c.args.out.now c.rows.out c.rows.out c.args.purse.now c.rows.purse c.rows.purse c.rows.invariant.passes
    (passes_read _ _ c.rows.input c.read_next.new.self c.rows.out c.rows.purse c.rows.purse (c.read_next.ensures.preserves c.rows.purse)) in
    record {
      ready = c.read_next.ensures.shows.ready;
      later = omega (arith, c.rows.invariant.later, c.read_next.ensures.cause.cause.later, c.give_head.ensures.cause.later);
      can = c.in-Ok.ensures.can;
      passes = passes_join _ _ _ c.args.input.now c.read_next.new.self c.read_next.new.self c.args.out.now c.rows.out c.give_head.new.out c.args.purse.now c.rows.purse c.give_head.new.purse read
          (passes_written _ _ c.read_next.new.self c.rows.out c.give_head.new.out c.rows.purse c.give_head.new.purse c.give_head.ensures.writes);
      goes = goes_on c.args.p.now.takes c.args.p.now.work _ _ _ c.args.input.now c.rows.input c.read_next.new.self c.args.out.now c.rows.out c.give_head.new.out c.args.purse.now c.rows.purse c.give_head.new.purse
          (goes_at c.args.p.now.takes c.args.p.now.work _ _ _ c.args.input.now c.rows.input c.args.out.now c.rows.out c.args.purse.now.pages c.read_next.ensures.disk.told_still c.rows.invariant.goes) read
          (advances_at _ _ c.rows.input c.read_next.new.self c.in-Ok-true.field-0 true c.read_next.ensures.disk.told_still c.in-Ok-true.field-0-test c.in-Ok-true.ensures.rows)
          c.give_head.ensures.writes c.in-Ok.ensures.adds;
    }

pub returns-in-Err-give_head-clause-passes : goal.returns-in-Err-give_head-clause-passes
returns-in-Err-give_head-clause-passes g c =
    passes_join _ _ _ c.args.input.now c.read_next.new.self c.read_next.new.self c.args.out.now c.rows.out c.give_head.new.out c.args.purse.now c.rows.purse c.give_head.new.purse
    (passes_join _ _ _ c.args.input.now c.rows.input c.read_next.new.self c.args.out.now c.rows.out c.rows.out c.args.purse.now c.rows.purse c.rows.purse c.rows.invariant.passes
    (passes_read _ _ c.rows.input c.read_next.new.self c.rows.out c.rows.purse c.rows.purse (c.read_next.ensures.preserves c.rows.purse)))
    (passes_written _ _ c.read_next.new.self c.rows.out c.give_head.new.out c.rows.purse c.give_head.new.purse c.give_head.ensures.writes)

pub returns-in-Ok-false-clause-passes : goal.returns-in-Ok-false-clause-passes
returns-in-Ok-false-clause-passes g c =
    passes_join _ _ _ c.args.input.now c.rows.input c.read_next.new.self c.args.out.now c.rows.out c.rows.out c.args.purse.now c.rows.purse c.rows.purse c.rows.invariant.passes
    (passes_read _ _ c.rows.input c.read_next.new.self c.rows.out c.rows.purse c.rows.purse (c.read_next.ensures.preserves c.rows.purse))

pub returns-in-Ok-false-clause-gives : goal.returns-in-Ok-false-clause-gives
returns-in-Ok-false-clause-gives g c =
    gives_end c.args.p.now.takes c.args.p.now.work _ _ c.args.input.now c.rows.input c.args.out.now c.rows.out c.args.purse.now.pages c.read_next.new.self.feed.shown (IsLeft c.read_next.new.self (g.D.Spill.told c.read_next.new.disk))
    (goes_at c.args.p.now.takes c.args.p.now.work _ _ _ c.args.input.now c.rows.input c.args.out.now c.rows.out c.args.purse.now.pages c.read_next.ensures.disk.told_still c.rows.invariant.goes)
    (advances_at _ _ c.rows.input c.read_next.new.self c.in-Ok-false.field-0 false c.read_next.ensures.disk.told_still c.in-Ok-false.field-0-test c.in-Ok-false.ensures.rows)

pub returns-in-Err-clause-passes : goal.returns-in-Err-clause-passes
returns-in-Err-clause-passes g c =
    passes_join _ _ _ c.args.input.now c.rows.input c.read_next.new.self c.args.out.now c.rows.out c.rows.out c.args.purse.now c.rows.purse c.rows.purse c.rows.invariant.passes
    (passes_read _ _ c.rows.input c.read_next.new.self c.rows.out c.rows.purse c.rows.purse (c.read_next.ensures.preserves c.rows.purse))
