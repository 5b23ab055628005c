use Rattle.std.proofs.Common.{sym, ◌∙◌, arith}
use Rattle.run_merge.proofs.TakeLemmas.{shown_in, shown_past}
use Rattle.run_merge.proofs.choose.head_of.Goals as goal

pub returns-then-place-sources : goal.returns-then-place-sources
returns-then-place-sources g c = sym (shown_past g.R.RecordStream.shown c.args.sources.now c.args.place (omega (arith, c.if-place-sources.true)))

pub returns : goal.returns
returns g c = c.head.ensures ∙ sym (shown_in g.R.RecordStream.shown c.args.sources.now c.args.place c.index-sources-place.result (omega (arith, c.if-place-sources.false)))
