use Rattle.std.proofs.Common.{◌≡◌, None, is_some, length, sym, ap, subst, arith}
use Rattle.segment_core.specs.Segments.{segment_sum}
use Rattle.paged_view.specs.Streams.{Advances}
use Rattle.run_merge.specs.Merging.{IsBestBelow, Merges, Rows, shown_at, yields}
use Rattle.run_merge.proofs.TakeLemmas.{advances_ended, advances_taken, shown_nowhere, shown_now, sum_less, sum_of_streams}
use Rattle.run_merge.proofs.take.take_first.Goals as goal

pub returns-in-Some-clause-rows : goal.returns-in-Some-clause-rows
returns-in-Some-clause-rows g c told =
    advances_taken c.args.sources.now c.give.new.sources c.in-Some.place c.in-Some.ensures.1.there c.give.ensures.count c.give.ensures.same c.give.ensures.stream c.give.ensures.given
    (g.O.RecordOrder.cmp c.args.order.now) (g.met.O.RecordOrder.total c.args.order.now) (g.O.RecordOrder.is_fit c.args.order.now) g.R.RecordStream.shown g.R.RecordStream.left told c.in-Some.ensures.0 c.requires.waits c.in-Some.ensures.1

pub returns-in-Some-clause-shows : goal.returns-in-Some-clause-shows
returns-in-Some-clause-shows g c =
    ap is_some (shown_now c.args.sources.now c.give.new.sources c.in-Some.place c.in-Some.ensures.1.there c.give.ensures.count c.give.ensures.same c.give.ensures.stream c.give.ensures.given g.R.RecordStream.shown c.in-Some.ensures.0 c.in-Some.ensures.1.here)

pub returns-in-Some-clause-falls : goal.returns-in-Some-clause-falls
returns-in-Some-clause-falls g c =
    sum_less c.args.sources.now c.give.new.sources c.in-Some.place c.in-Some.ensures.1.there c.give.ensures.count c.give.ensures.same c.give.ensures.stream c.give.ensures.given g.R.RecordStream.shown g.R.RecordStream.most_left c.in-Some.ensures.0 c.in-Some.ensures.1.here c.requires.waits

pub returns-in-Some-clause-later : goal.returns-in-Some-clause-later
returns-in-Some-clause-later g c =
    omega (arith, sum_less c.args.sources.now c.give.new.sources c.in-Some.place c.in-Some.ensures.1.there c.give.ensures.count c.give.ensures.same c.give.ensures.stream c.give.ensures.given g.R.RecordStream.shown g.R.RecordStream.most_left c.in-Some.ensures.0 c.in-Some.ensures.1.here c.requires.waits)

pub returns-in-Some-clause-segments : goal.returns-in-Some-clause-segments
returns-in-Some-clause-segments g c h =
    sum_of_streams c.args.sources.now c.give.new.sources c.in-Some.place c.in-Some.ensures.1.there c.give.ensures.count c.give.ensures.same c.give.ensures.stream c.give.ensures.given (λ r. segment_sum h (g.R.RecordStream.held r))

pub returns-in_default-clause-rows : goal.returns-in_default-clause-rows
returns-in_default-clause-rows g c told =
    let none : c.least-best.result ≡ None = c.in_default.is in
    subst (λ place. (rows : Rows) → Merges (g.O.RecordOrder.cmp c.args.order.now) (yields (g.O.RecordOrder.cmp c.args.order.now) (g.O.RecordOrder.is_fit c.args.order.now) g.R.RecordStream.shown g.R.RecordStream.left told) c.args.sources.now rows
    → Advances rows (is_some place) (shown_at g.R.RecordStream.shown c.args.sources.now place) (Merges (g.O.RecordOrder.cmp c.args.order.now) (yields (g.O.RecordOrder.cmp c.args.order.now) (g.O.RecordOrder.is_fit c.args.order.now) g.R.RecordStream.shown g.R.RecordStream.left told) c.args.sources.now)) (sym none)
    (advances_ended (g.O.RecordOrder.cmp c.args.order.now) (g.met.O.RecordOrder.total c.args.order.now) (g.O.RecordOrder.is_fit c.args.order.now) g.R.RecordStream.shown g.R.RecordStream.left told c.args.sources.now c.requires.waits
    (subst (IsBestBelow (g.O.RecordOrder.cmp c.args.order.now) g.R.RecordStream.shown c.args.sources.now (length c.args.sources.now)) none c.least-best.ensures))

pub returns-in_default-clause-shows : goal.returns-in_default-clause-shows
returns-in_default-clause-shows g c =
    let none : c.least-best.result ≡ None = c.in_default.is in
    subst (λ place. is_some (shown_at g.R.RecordStream.shown c.args.sources.now place) ≡ is_some place) (sym none) (ap is_some (shown_nowhere g.R.RecordStream.shown c.args.sources.now))
