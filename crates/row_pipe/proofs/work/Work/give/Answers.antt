use Rattle.row_pipe.proofs.Showing.{short_record}
use Rattle.row_pipe.proofs.work.Work.give.Goals as goal

pub add-requires-clause-len : goal.add-requires-clause-len
add-requires-clause-len g c = short_record c.args.schema.now (g.X.Span.seen c.args.row.now) c.requires.whole c.requires.small

pub add-requires-then-test-clause-len : goal.add-requires-then-test-clause-len
add-requires-then-test-clause-len g c = short_record c.args.schema.now (g.X.Span.seen c.args.row.now) c.requires.whole c.requires.small
