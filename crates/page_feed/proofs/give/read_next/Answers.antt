use Rattle.page_feed.proofs.StepLemmas.{among_read, among_some}
use Rattle.page_feed.proofs.give.read_next.Goals as goal

pub returns-in-Some-clause-among : goal.returns-in-Some-clause-among
returns-in-Some-clause-among g c =
    among_some _ _ c.in-Some.reader c.next.new.self c.in-Some.is
    (among_read _ c.in-Some.reader c.next.new.self c.next.new.page.bytes _ c.next.result c.next.ensures.at_end c.next.ensures.moved c.next.ensures.read c.next.ensures.spill c.next.ensures.damaged)
