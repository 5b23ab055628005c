-- What weighs one a page counts the pages.
use Rattle.std.proofs.Common.{arith}
use Rattle.std.specs.Prelude.{option_to_list}
use Rattle.segment_core.proofs.Weighing.{segment_sum-ones}
use Rattle.worked_records.proofs.pages.taken.Goals as goal

pub returns-then-all-clause-count : goal.returns-then-all-clause-count
returns-then-all-clause-count c =
    omega (arith, c.last.ensures.segments (λ _ _. 1), segment_sum-ones c.last.new.self.pages, segment_sum-ones (option_to_list c.last.result), segment_sum-ones c.args.writer.now.pages)
