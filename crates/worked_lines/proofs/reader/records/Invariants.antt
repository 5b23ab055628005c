use Rattle.flow_outside.specs.Readers.{Lives}
use Rattle.outside_memory.specs.Shelf.{readers_of}
use Rattle.worked_lines.proofs.reader.records.Given as goal

abbrev pub invariant-loop : goal.invariant-loop
invariant-loop l = Lives (readers_of l.shelf) l.id
