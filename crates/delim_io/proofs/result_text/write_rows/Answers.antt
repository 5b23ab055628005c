use Rattle.std.proofs.Common.{◌∙◌, subst, arith}
use Rattle.flow_outside.specs.Told.{Appends, AppendsProperPrefix}
use Rattle.delim_io.proofs.LineTextLemmas.{lines_taken, lines_broken, lines_stopped}
use Rattle.delim_io.proofs.result_text.write_rows.Goals as goal

pub returns-in_default-clause-wanting : goal.returns-in_default-clause-wanting
returns-in_default-clause-wanting g c =
    λ e. lines_stopped c.args.rows.now c.loop-at.at c.min-end.result (omega arith) (g.K.Sink.told c.args.sink.now) (g.K.Sink.told c.loop-at.sink) (g.K.Sink.told c.loop-at.sink) c.loop-at.invariant.written

pub returns-in_default-write_all-clause-broken : goal.returns-in_default-write_all-clause-broken
returns-in_default-write_all-clause-broken g c =
    let text = c.as_slice.ensures.value ∙ c.in-Ok.ensures in
    let part = subst (AppendsProperPrefix (g.K.Sink.told c.loop-at.sink) (g.K.Sink.told c.write_all.new.sink)) text c.in_default-write_all.ensures.broken in
    λ e. lines_broken c.args.rows.now c.loop-at.at c.min-end.result (omega arith) (g.K.Sink.told c.args.sink.now) (g.K.Sink.told c.loop-at.sink) (g.K.Sink.told c.write_all.new.sink) c.loop-at.invariant.written part

pub loop-at-preserved : goal.loop-at-preserved
loop-at-preserved g c =
    let text = c.as_slice.ensures.value ∙ c.in-Ok.ensures in
    let next = subst (Appends (g.K.Sink.told c.loop-at.sink) (g.K.Sink.told c.write_all.new.sink)) text c.in-Ok-write_all.ensures.written in
    record {
      within = omega arith;
      later = omega arith;
      written = lines_taken c.args.rows.now c.loop-at.at c.min-end.result (omega arith) (g.K.Sink.told c.args.sink.now) (g.K.Sink.told c.loop-at.sink) (g.K.Sink.told c.write_all.new.sink) c.loop-at.invariant.written next;
    }
