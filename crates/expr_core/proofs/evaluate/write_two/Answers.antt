use Rattle.flow_types.specs.Records.{tuple_of}
use Rattle.flow_types.proofs.ColumnLaws.{fits-append}
use Rattle.expr_core.proofs.evaluate.write_two.Goals as goal

pub write_columns-requires-clause-fitting : goal.write_columns-requires-clause-fitting
write_columns-requires-clause-fitting g c =
    fits-append c.args.ls.now c.args.rs.now (tuple_of c.args.ls.now (g.A.Span.seen c.args.left.now)) (tuple_of c.args.rs.now (g.B.Span.seen c.args.right.now))
    c.requires.left_whole.tuple.fitting c.requires.right_whole.tuple.fitting
