-- A page of the run is read and goes to the reader, or the segment is blank again.
use Rattle.std.proofs.Common.{◌≡◌, ◌+◌, Ok, length, ap, ◌∙◌, arith}
use Rattle.page_feed.specs.Feeds.{FeedView, pages_to_read}
use Rattle.page_feed.proofs.LeftLemmas.{goes_nowhere}
use Rattle.page_feed.proofs.StepLemmas.{blank_there, count_read, read_failed, read_given, read_nothing, readable_first, still_told}
use Rattle.page_feed.proofs.feed.Feed.give_read.Goals as goal

pub read_page-requires : goal.read_page-requires
read_page-requires g c =
    readable_first _ c.args.self.now c.take_blank.new.self c.in-Some.page c.requires.known c.in-Some.ensures.blank (ap (λ (v : FeedView). v.run) c.take_blank.ensures.others)

pub unreachable-requires : goal.unreachable-requires
unreachable-requires g c =
    omega (arith, blank_there c.args.self.now c.requires.started c.requires.space c.take_blank.ensures.fed.counts, ap length c.in-None.ensures.none)

pub returns-in-Ok-true-clause-goes : goal.returns-in-Ok-true-clause-goes
returns-in-Ok-true-clause-goes g c =
    let more = c.in-Ok-true.is ∙ ap Ok c.in-Ok-true.field-0-test in
    let fewer : pages_to_read c.take_blank.new.self.run ≡ pages_to_read c.read_page.new.self.run + 1 = c.read_page.ensures.fewer more in
    let run : pages_to_read c.take_blank.new.self.run ≡ pages_to_read c.args.self.now.run = ap (λ (v : FeedView). pages_to_read v.run) c.take_blank.ensures.others in
    read_given _ c.args.self.now c.take_blank.new.self c.read_page.new.self c.give_page.new.self c.in-Some.page c.read_page.new.page
    c.take_blank.ensures.others c.read_page.ensures.others c.give_page.ensures.others c.requires.out c.in-Some.ensures.blank c.read_page.ensures.same c.give_page.ensures.pages c.give_page.ensures.text
    c.take_blank.ensures.fed.text (count_read c.args.self.now c.take_blank.ensures.fed (omega (arith, fewer, run))) fewer c.give_page.ensures.most
    (c.read_page.ensures.pages more) c.read_page.ensures.readable c.read_page.ensures.among

pub returns-in-Ok-false-clause-goes : goal.returns-in-Ok-false-clause-goes
returns-in-Ok-false-clause-goes g c =
    let end = c.in-Ok-false.is ∙ ap Ok c.in-Ok-false.field-0-test in
    goes_nowhere _ c.args.self.now c.put_blank.new.self
    (read_nothing c.args.self.now c.take_blank.new.self c.read_page.new.self c.put_blank.new.self c.in-Some.page c.read_page.new.page
    c.take_blank.ensures.others c.read_page.ensures.others c.put_blank.ensures c.in-Some.ensures.blank (c.read_page.ensures.stays end).1 (c.read_page.ensures.stays end).0)

pub returns-in-Ok-false-clause-stays : goal.returns-in-Ok-false-clause-stays
returns-in-Ok-false-clause-stays g c = λ is.
    let end = c.in-Ok-false.is ∙ ap Ok c.in-Ok-false.field-0-test in
    read_nothing c.args.self.now c.take_blank.new.self c.read_page.new.self c.put_blank.new.self c.in-Some.page c.read_page.new.page
    c.take_blank.ensures.others c.read_page.ensures.others c.put_blank.ensures c.in-Some.ensures.blank (c.read_page.ensures.stays end).1 (c.read_page.ensures.stays end).0

pub returns-in-Err-clause-goes : goal.returns-in-Err-clause-goes
returns-in-Err-clause-goes g c =
    read_failed _ c.args.self.now c.take_blank.new.self c.read_page.new.self c.put_blank-in-Err.new.self c.in-Some.page c.read_page.new.page
    c.take_blank.ensures.others c.read_page.ensures.others c.put_blank-in-Err.ensures c.in-Some.ensures.blank c.read_page.ensures.same c.read_page.ensures.later
    (still_told _ c.take_blank.new.self.run c.read_page.new.self.run c.read_page.result c.in-Err.fault c.in-Err.is c.read_page.ensures.spill c.read_page.ensures.cause.damaged)
