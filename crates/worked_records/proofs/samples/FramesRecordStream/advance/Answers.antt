-- A known text begins with its first row, or is empty.
use Rattle.worked_records.proofs.SampleLemmas.{advances, damaged, some_bytes}
use Rattle.worked_records.proofs.samples.FramesRecordStream.advance.Goals as goal

pub returns-in-Some-clause-rows : goal.returns-in-Some-clause-rows
returns-in-Some-clause-rows g c =
    advances c.args.self.now.rest.now c.in-Some.row.now c.in-Some.rest.now c.in-Some.ensures.0 c.in-Some.ensures.1 c.in-Some.ensures.2

pub returns-else-is_empty-clause-cause : goal.returns-else-is_empty-clause-cause
returns-else-is_empty-clause-cause g c =
    damaged _ _ c.args.self.now.rest.now c.requires.known c.in-None.ensures (some_bytes c.args.self.now.rest.now c.is_empty.result c.is_empty.ensures c.if-is_empty.false)
