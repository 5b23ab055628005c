use Rattle.std.proofs.Common.{arith}
use Rattle.job_report.proofs.PartLemmas.{on_err, parts_broken, parts_taken}
use Rattle.job_report.proofs.report.write_parts.Goals as goal

pub returns-in_err-write_all-clause-broken : goal.returns-in_err-write_all-clause-broken
returns-in_err-write_all-clause-broken g c =
    on_err c.from_residual.result _ (parts_broken c.args.parts.now c.loop-part.part-index _ c.loop-part-test.true (g.E.Sink.told c.args.err.now) (g.E.Sink.told c.loop-part.err) (g.E.Sink.told c.write_all.new.sink) c.loop-part.invariant.taken c.in_err-write_all.ensures.broken)

pub loop-part-preserved : goal.loop-part-preserved
loop-part-preserved g c = record {
  later = omega (arith, c.loop-part.invariant.later, c.in_ok-write_all.ensures.cause.later);
  taken = parts_taken c.args.parts.now c.loop-part.part-index _ c.loop-part-test.true (g.E.Sink.told c.args.err.now) (g.E.Sink.told c.loop-part.err) (g.E.Sink.told c.write_all.new.sink) c.loop-part.invariant.taken c.in_ok-write_all.ensures.written;
}
