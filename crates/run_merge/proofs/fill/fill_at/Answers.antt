use Rattle.segment_core.specs.Segments.{segment_sum}
use Rattle.run_merge.specs.Merging.{WaitsFitting, most_of, yields}
use Rattle.run_merge.proofs.PlaceLemmas.{all_with, known_at, merges_with, sum_falls, sum_stays}
use Rattle.run_merge.proofs.fill.fill_at.Goals as goal

pub fill_place-requires-clause-known : goal.fill_place-requires-clause-known
fill_place-requires-clause-known g c =
    known_at (g.O.RecordOrder.cmp c.args.order.now) (yields (g.O.RecordOrder.cmp c.args.order.now) (g.O.RecordOrder.is_fit c.args.order.now) g.R.RecordStream.shown g.R.RecordStream.left) _ c.args.sources.now c.args.at c.requires.there c.requires.known

pub returns-clause-ready : goal.returns-clause-ready
returns-clause-ready g c =
    all_with c.args.sources.now c.fill_place.new.sources c.args.at c.requires.there c.fill_place.ensures.count c.fill_place.ensures.same (λ s. g.R.RecordStream.IsReady s.stream) c.requires.ready c.fill_place.ensures.ready

pub returns-clause-fitting : goal.returns-clause-fitting
returns-clause-fitting g c =
    all_with c.args.sources.now c.fill_place.new.sources c.args.at c.requires.there c.fill_place.ensures.count c.fill_place.ensures.same (WaitsFitting (g.O.RecordOrder.is_fit c.args.order.now) (g.O.RecordOrder.prefix_of c.args.order.now) g.R.RecordStream.shown) c.requires.fitting c.fill_place.ensures.fitting

pub returns-clause-rows : goal.returns-clause-rows
returns-clause-rows g c =
    merges_with (g.O.RecordOrder.cmp c.args.order.now) (yields (g.O.RecordOrder.cmp c.args.order.now) (g.O.RecordOrder.is_fit c.args.order.now) g.R.RecordStream.shown g.R.RecordStream.left) _ _ c.fill_place.ensures.tells
    c.args.sources.now c.fill_place.new.sources c.args.at c.requires.there c.fill_place.ensures.count c.fill_place.ensures.same c.fill_place.result c.fill_place.ensures.rows

pub returns-clause-later : goal.returns-clause-later
returns-clause-later g c =
    sum_falls c.args.sources.now c.fill_place.new.sources c.args.at c.requires.there c.fill_place.ensures.count c.fill_place.ensures.same (most_of g.R.RecordStream.shown g.R.RecordStream.most_left) c.fill_place.ensures.later

pub returns-clause-segments : goal.returns-clause-segments
returns-clause-segments g c h =
    sum_stays c.args.sources.now c.fill_place.new.sources c.args.at c.requires.there c.fill_place.ensures.count c.fill_place.ensures.same (λ s. segment_sum h (g.R.RecordStream.held s.stream)) (c.fill_place.ensures.segments h)
