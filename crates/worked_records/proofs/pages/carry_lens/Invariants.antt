use Rattle.std.proofs.Common.{length, ◌<◌, ◌^◌, All}
use Rattle.worked_records.proofs.pages.carry_lens.Given as goal

abbrev pub invariant-loop-n : goal.invariant-loop-n
invariant-loop-n g l = All (λ row. length row.now < 2 ^ 32) l.rows.items
