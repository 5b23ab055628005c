use Rattle.std.proofs.Common.{sym, subst}
use Rattle.job_report.specs.Effects.{Writes, Reports}
use Rattle.job_report.specs.Lines.{line_of, report_of}
use Rattle.flink_job.specs.Stops.{fault_in, name_in}
use Rattle.flink_job.proofs.Ends.{reports_from}
use Rattle.flink_job.proofs.ended.ended.Goals as goal

pub returns-clause-reported : goal.returns-clause-reported
returns-clause-reported g c =
    let w : Writes = record {
      old = g.E.Sink.told c.args.err.now;
      new = g.E.Sink.told c.write_line.new.err;
      before = g.E.Sink.fault_count c.args.err.now;
      after = g.E.Sink.fault_count c.write_line.new.err;
    } in
    subst (λ s. Reports w (report_of c.args.program (name_in s) (fault_in s))) (sym c.in-Some.is)
    (reports_from w (line_of c.args.program c.in-Some.field-0.name.now c.in-Some.field-0.fault) c.write_line.result c.write_line.ensures.cause c.write_line.ensures.written c.write_line.ensures.broken)
