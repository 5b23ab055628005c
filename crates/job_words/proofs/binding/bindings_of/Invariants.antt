use Rattle.std.proofs.Common.{◌≡◌, drop}
use Rattle.job_words.specs.Words.{bindings_of}
use Rattle.job_words.specs.Requests.{all_bound}
use Rattle.job_words.proofs.Onto.{onto}
use Rattle.job_words.proofs.binding.bindings_of.Given as goal

abbrev pub invariant-loop-i : goal.invariant-loop-i
invariant-loop-i l = bindings_of (drop l.fn.from l.words) ≡ onto (all_bound l.bindings.items) (bindings_of (drop l.i l.words))
