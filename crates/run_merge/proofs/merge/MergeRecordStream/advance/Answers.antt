use Rattle.run_merge.proofs.TakeLemmas.{none_after}
use Rattle.run_merge.proofs.merge.MergeRecordStream.advance.Goals as goal

pub returns-in_err-self-inside-clause-shows : goal.returns-in_err-self-inside-clause-shows
returns-in_err-self-inside-clause-shows g c = none_after g.R.RecordStream.shown c.take_least.new.self.sources c.from_residual.result c.from_residual.ensures.0
