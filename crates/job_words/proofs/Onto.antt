-- Bindings that were read, before those of the words behind them.
use Rattle.std.proofs.Common.{List, ◌++◌, Option, Some, None}
use Rattle.job_words.specs.Words.{Binding}

abbrev pub onto : List Binding → Option (List Binding) → Option (List Binding)
onto done None = None
onto done (Some more) = Some (done ++ more)
