use Rattle.std.proofs.Common.{◌≡◌, drop}
use Rattle.job_words.specs.Requests.{all_bound}
use Rattle.job_inputs.specs.Sources.{binding_at}
use Rattle.job_inputs.proofs.sources.binding_at.Given as goal

abbrev pub invariant-loop-i : goal.invariant-loop-i
invariant-loop-i l = binding_at (all_bound l.bindings) l.name ≡ binding_at (all_bound (drop l.i l.bindings)) l.name
