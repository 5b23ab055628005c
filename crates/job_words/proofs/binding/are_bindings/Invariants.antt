use Rattle.std.proofs.Common.{◌≡◌, drop}
use Rattle.std.specs.Prelude.{is_some}
use Rattle.job_words.specs.Words.{bindings_of}
use Rattle.job_words.proofs.binding.are_bindings.Given as goal

abbrev pub invariant-loop-i : goal.invariant-loop-i
invariant-loop-i l = is_some (bindings_of (drop l.fn.from l.words)) ≡ is_some (bindings_of (drop l.i l.words))
