use Rattle.std.proofs.Common.{sym, ap, ◌∙◌}
use Rattle.run_merge.specs.Merging.{shown_at}
use Rattle.run_merge.proofs.TakeLemmas.{shown_nowhere}
use Rattle.run_merge.proofs.streams.Streams.head_at.Goals as goal

pub returns-in-None : goal.returns-in-None
returns-in-None g c = sym (ap (shown_at g.R.RecordStream.shown c.args.self.now.sources) c.in-None.is ∙ shown_nowhere g.R.RecordStream.shown c.args.self.now.sources)
