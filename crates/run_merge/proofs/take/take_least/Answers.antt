use Rattle.std.proofs.Common.{sym, ◌∙◌}
use Rattle.run_merge.proofs.TakeLemmas.{weigh_flat}
use Rattle.run_merge.proofs.take.take_least.Goals as goal

pub returns-clause-segments : goal.returns-clause-segments
returns-clause-segments g c h =
    weigh_flat h (λ s. g.R.RecordStream.held s.stream) c.take_first.new.sources ∙ (c.take_first.ensures.segments h ∙ c.fill.ensures.segments h) ∙ sym (weigh_flat h (λ s. g.R.RecordStream.held s.stream) c.args.sources.now)

pub returns-in_err-fill-clause-segments : goal.returns-in_err-fill-clause-segments
returns-in_err-fill-clause-segments g c h =
    weigh_flat h (λ s. g.R.RecordStream.held s.stream) c.fill.new.sources ∙ c.fill.ensures.segments h ∙ sym (weigh_flat h (λ s. g.R.RecordStream.held s.stream) c.args.sources.now)
