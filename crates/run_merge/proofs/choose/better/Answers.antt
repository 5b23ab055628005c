use Rattle.std.proofs.Common.{true, ap, ◌∙◌, subst}
use Rattle.run_merge.specs.declared.source.Source.{Source}
use Rattle.run_merge.specs.Merging.{IsBestBelow}
use Rattle.run_merge.proofs.BestLemmas.{first_best, lesser}
use Rattle.run_merge.proofs.PrefixLemmas.{some_here, is_less_rows, lt_less}
use Rattle.run_merge.proofs.choose.better.Goals as goal

pub returns-in_default : goal.returns-in_default
returns-in_default g c =
    let here = some_here (g.O.RecordOrder.prefix_of c.args.order.now) g.R.RecordStream.shown c.args.sources.now c.args.at c.index-sources-at.result c.requires.there c.requires.kept c.if-is_none.ensures in
    first_best (g.O.RecordOrder.cmp c.args.order.now) (g.met.O.RecordOrder.total c.args.order.now) g.R.RecordStream.shown c.args.sources.now c.args.at here.0 here.1
    (subst (IsBestBelow (g.O.RecordOrder.cmp c.args.order.now) g.R.RecordStream.shown c.args.sources.now c.args.at) c.in_default.is c.requires.best)

pub returns-then-is_less : goal.returns-then-is_less
returns-then-is_less g c =
    let here = some_here (g.O.RecordOrder.prefix_of c.args.order.now) g.R.RecordStream.shown c.args.sources.now c.args.at c.index-sources-at.result c.requires.there c.requires.kept c.if-is_none.ensures in
    let best = subst (IsBestBelow (g.O.RecordOrder.cmp c.args.order.now) g.R.RecordStream.shown c.args.sources.now c.args.at) c.in-Some.is c.requires.best in
    let less = is_less_rows (g.O.RecordOrder.cmp c.args.order.now) true (g.R.RecordStream.shown c.index-sources-at-2.result.stream) (g.R.RecordStream.shown c.index-sources-place.result.stream) here.0 best.0
    (ap (λ (s : Source g.row.R.Denot). g.R.RecordStream.shown s.stream) c.index-sources-at-2.is ∙ here.1 c.index-sources-at-2.result)
    (ap (λ (s : Source g.row.R.Denot). g.R.RecordStream.shown s.stream) c.index-sources-place.is ∙ best.1.here c.index-sources-place.result)
    c.if-is_less.ensures in
    lesser (g.O.RecordOrder.cmp c.args.order.now) (g.met.O.RecordOrder.total c.args.order.now) g.R.RecordStream.shown c.args.sources.now c.args.at here.0 best.0 c.in-Some.place c.index-sources-place.result
    here.1 (best.1.here c.index-sources-place.result) (lt_less _ less) best
