use Rattle.std.proofs.Common.{sym, ◌∙◌, arith}
use Rattle.run_merge.proofs.TakeLemmas.{number_in, number_past}
use Rattle.run_merge.proofs.choose.block_of.Goals as goal

pub returns-then-place-sources : goal.returns-then-place-sources
returns-then-place-sources g c = sym (number_past g.R.RecordStream.block_read c.args.sources.now c.args.place (omega (arith, c.if-place-sources.true)))

pub returns : goal.returns
returns g c = c.block.ensures ∙ sym (number_in g.R.RecordStream.block_read c.args.sources.now c.args.place c.index-sources-place.result (omega (arith, c.if-place-sources.false)))
