use Rattle.std.proofs.Common.{rules, ◌++◌, take, drop, ap, ◌∙◌, arith}
use Rattle.flow_outside.proofs.Files.{written_back}
use Rattle.delim_io.specs.LinesLeft.{LinesView}
use Rattle.delim_io.proofs.LinesLeftLemmas.{drop_front, reads_ahead}
use Rattle.delim_io.proofs.line_reader.LineReader.fill.Goals as goal

pub returns-clause-ahead : goal.returns-clause-ahead
returns-clause-ahead g c = λ _.
    let after : LinesView = record {
      fields = c.self.inside.schema;
      delimiter = c.self.inside.delimiter;
      given = c.self.inside.start;
      ahead = drop c.self.inside.start c.extend_from_slice.new.self.items;
      row_bytes = take c.self.inside.len c.self.inside.row.items;
    } in
    reads_ahead (g.S.Shelf.readers c.args.shelf.now c.args.id) (g.S.Shelf.readers c.read.new.self c.args.id) c.args.self.now after c.read.new.into c.in-Ok.count c.in-Ok.ensures.given (c.in-Ok.ensures.goes_on.lives (omega (arith, c.if-count-eq0.false))).0
    (ap (drop c.self.inside.start) (c.in-Ok-extend_from_slice.ensures.items ∙ ap (λ piece. c.self.inside.ahead.items ++ take c.in-Ok.count piece) (c.deref.ensures.value ∙ written_back _ _ _ (search rules)))
    ∙ drop_front c.self.inside.start c.self.inside.ahead.items (take c.in-Ok.count c.read.new.into) (omega (arith, c.self.invariant.0, c.self.inside.ahead.ok.0))
    ∙ ap (λ (v : LinesView). v.ahead ++ take c.in-Ok.count c.read.new.into) c.self.view_is)
