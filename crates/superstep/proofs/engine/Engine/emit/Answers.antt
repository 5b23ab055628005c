-- The result couldn't be read.
use Rattle.superstep.specs.Engines.{first_disk, told_of}
use Rattle.superstep.specs.EngineSteps.{faults_of}
use Rattle.superstep.proofs.EngineLemmas.{emit_failed, prints_failed}
use Rattle.superstep.proofs.engine.Engine.emit.Goals as goal

pub returns-clause-prints : goal.returns-clause-prints
returns-clause-prints g c = prints_failed g.D.Spill.told c.args.self.now (g.K.Sink.told c.args.out.now) c.sorted_rows.result c.in-Err.fault c.in-Err.is c.sorted_rows.ensures.cause.write

pub returns-clause-cause : goal.returns-clause-cause
returns-clause-cause g c =
    emit_failed (faults_of g.D.Spill.fault_count (first_disk c.args.self.now)) (faults_of g.D.Spill.fault_count (first_disk c.sorted_rows.new.self)) (told_of g.D.Spill.told (first_disk c.args.self.now)) (g.K.Sink.fault_count c.args.out.now) c.sorted_rows.new.self.place c.sorted_rows.result c.in-Err.fault c.in-Err.is c.sorted_rows.ensures.cause
