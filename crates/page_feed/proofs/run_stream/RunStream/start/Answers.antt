use Rattle.std.proofs.Common.{subst, sym}
use Rattle.page_feed.specs.RunStreams.{HoldsRun}
use Rattle.page_feed.proofs.RunStreamLemmas.{left_started}
use Rattle.page_feed.proofs.run_stream.RunStream.start.Goals as goal

pub returns-clause-left : goal.returns-clause-left
returns-clause-left c = λ blocks size rows fits holds.
    let here = subst (λ f. HoldsRun blocks size f.reach c.args.run.now rows) (sym c.self.view_is) holds in
    left_started blocks size c.self.inside.feed c.start-2.new.self c.self.inside.kept.items c.self.inside.open_page.items c.args.run.now c.start.result c.args.purse.now.pages c.start-2.new.purse.pages rows
    c.start-2.ensures.begins c.self.invariant.none_kept c.self.invariant.none_open c.start.ensures.at c.start.ensures.all.0 (c.start.ensures.readable blocks size here.stands) c.start-2.ensures.purse.1 fits here
