-- What weighs one a page counts the pages.
use Rattle.std.proofs.Common.{arith}
use Rattle.segment_core.proofs.Weighing.{segment_sum-ones}
use Rattle.worked_records.proofs.pages.put.Goals as goal

pub returns-clause-count : goal.returns-clause-count
returns-clause-count g c =
    omega (arith, c.append.ensures.segments (λ _ _. 1), segment_sum-ones c.append.new.self.pages, segment_sum-ones c.args.writer.now.pages)
