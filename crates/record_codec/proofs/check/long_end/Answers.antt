use Rattle.std.proofs.Common.{arith, drop, length-drop}
use Rattle.record_codec.proofs.PrefixLemmas.{no_long, long_stands}
use Rattle.record_codec.proofs.check.long_end.Goals as goal

pub returns-then-len-start-lt8-clause-none : goal.returns-then-len-start-lt8-clause-none
returns-then-len-start-lt8-clause-none g c = λ _ begins.
    no_long (drop c.args.start (g.X.Span.seen c.args.row.now))
    (omega (arith, length-drop c.args.start (g.X.Span.seen c.args.row.now))) begins

pub returns-clause-found : goal.returns-clause-found
returns-clause-found g c =
    long_stands (g.X.Span.seen c.args.row.now) c.args.start (omega arith) c.requires.bytes
