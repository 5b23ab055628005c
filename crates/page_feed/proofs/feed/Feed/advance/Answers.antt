-- One turn of the loop, and its ends.
use Rattle.std.proofs.Common.{Ok, ap, ◌∙◌, arith, is_some}
use Rattle.page_feed.specs.Feeds.{FeedView}
use Rattle.page_feed.proofs.LeftLemmas.{known_on, started_on}
use Rattle.page_feed.proofs.LoopLemmas.{cause_end, goes_after, goes_before, keeps_pages, known_before, no_record, none_shown, rows_end, stuck_is}
use Rattle.page_feed.proofs.ShowLemmas.{shows_next}
use Rattle.page_feed.proofs.feed.Feed.advance.Goals as goal

pub returns-then-show_next-clause-rows : goal.returns-then-show_next-clause-rows
returns-then-show_next-clause-rows g c =
    let shown = shows_next _ c.args.self.now c.pages.self c.show_next.new.self c.pages.invariant.goes (c.show_next.ensures.found.0 c.if-show_next.true) c.show_next.ensures.fed.text (c.show_next.ensures.shows c.if-show_next.true) in shown.rows

pub give_next-requires-clause-started : goal.give_next-requires-clause-started
give_next-requires-clause-started g c =
    let goes = goes_before _ c.args.self.now c.pages.self c.show_next.new.self c.put_all_away.new.self c.pages.invariant.goes (c.show_next.ensures.none c.if-show_next.false) c.put_all_away.ensures.puts in
    started_on c.args.self.now c.put_all_away.new.self goes.weights goes.reach c.requires.started

pub give_next-requires-clause-known : goal.give_next-requires-clause-known
give_next-requires-clause-known g c =
    known_before _ _ c.args.self.now c.put_all_away.new.self c.pages.invariant.tells (goes_before _ c.args.self.now c.pages.self c.show_next.new.self c.put_all_away.new.self c.pages.invariant.goes (c.show_next.ensures.none c.if-show_next.false) c.put_all_away.ensures.puts) c.requires.known

pub pages-preserved : goal.pages-preserved
pages-preserved g c =
    record {
      goes = goes_after _ _ c.args.self.now c.put_all_away.new.self c.give_next.new.self c.pages.invariant.tells (goes_before _ c.args.self.now c.pages.self c.show_next.new.self c.put_all_away.new.self c.pages.invariant.goes (c.show_next.ensures.none c.if-show_next.false) c.put_all_away.ensures.puts) c.give_next.ensures.goes;
      later = omega (arith, c.pages.invariant.later, c.give_next.ensures.cause.later);
      tells = c.give_next.ensures.tells ∙ c.pages.invariant.tells;
      counted = c.give_next.ensures.counted ∙ c.pages.invariant.counted;
      quiet = λ none.
          let before = c.pages.invariant.quiet none in
          let now = c.give_next.ensures.quiet (c.put_all_away.ensures.puts.run ∙ ap (λ (f : FeedView). f.run) (c.show_next.ensures.none c.if-show_next.false) ∙ before.1) in (now.0 ∙ before.0, now.1.0);
    }

pub returns-in-Ok-false-clause-rows : goal.returns-in-Ok-false-clause-rows
returns-in-Ok-false-clause-rows g c =
    let end = c.in-Ok-false.is ∙ ap Ok c.in-Ok-false.field-0-test in
    rows_end _ c.args.self.now c.give_next.new.self c.end_of_text.result (goes_after _ _ c.args.self.now c.put_all_away.new.self c.give_next.new.self c.pages.invariant.tells (goes_before _ c.args.self.now c.pages.self c.show_next.new.self c.put_all_away.new.self c.pages.invariant.goes (c.show_next.ensures.none c.if-show_next.false) c.put_all_away.ensures.puts) c.give_next.ensures.goes)
    (stuck_is c.pages.self c.show_next.new.self c.put_all_away.new.self c.give_next.new.self (no_record c.show_next.result c.pages.self.reader.text c.show_next.ensures.found.1 c.if-show_next.false) (c.show_next.ensures.none c.if-show_next.false) c.put_all_away.ensures.puts c.put_all_away.ensures.all c.give_next.ensures.fed (c.give_next.ensures.refused end) (c.give_next.ensures.stays end))
    c.give_next.ensures.none c.end_of_text.ensures.none

pub returns-in-Ok-false-clause-cause : goal.returns-in-Ok-false-clause-cause
returns-in-Ok-false-clause-cause g c =
    let end = c.in-Ok-false.is ∙ ap Ok c.in-Ok-false.field-0-test in (
      cause_end _ _ _ c.give_next.new.self c.end_of_text.result (omega (arith, c.pages.invariant.later, c.give_next.ensures.cause.later))
          (known_on _ c.args.self.now c.give_next.new.self (goes_after _ _ c.args.self.now c.put_all_away.new.self c.give_next.new.self c.pages.invariant.tells (goes_before _ c.args.self.now c.pages.self c.show_next.new.self c.put_all_away.new.self c.pages.invariant.goes (c.show_next.ensures.none c.if-show_next.false) c.put_all_away.ensures.puts) c.give_next.ensures.goes) c.requires.known)
          (stuck_is c.pages.self c.show_next.new.self c.put_all_away.new.self c.give_next.new.self (no_record c.show_next.result c.pages.self.reader.text c.show_next.ensures.found.1 c.if-show_next.false) (c.show_next.ensures.none c.if-show_next.false) c.put_all_away.ensures.puts c.put_all_away.ensures.all c.give_next.ensures.fed (c.give_next.ensures.refused end) (c.give_next.ensures.stays end))
          c.end_of_text.ensures.end.1 c.end_of_text.ensures.read,
      c.end_of_text.ensures.damaged,
    )

pub returns-then-show_next-clause-shows : goal.returns-then-show_next-clause-shows
returns-then-show_next-clause-shows g c =
    let shown = shows_next _ c.args.self.now c.pages.self c.show_next.new.self c.pages.invariant.goes (c.show_next.ensures.found.0 c.if-show_next.true) c.show_next.ensures.fed.text (c.show_next.ensures.shows c.if-show_next.true) in
    (started_on c.args.self.now c.show_next.new.self shown.weights shown.reach c.requires.started, ap is_some (ap (λ (f : FeedView). f.shown) (c.show_next.ensures.shows c.if-show_next.true)))

pub returns-then-show_next-clause-keeps : goal.returns-then-show_next-clause-keeps
returns-then-show_next-clause-keeps g c =
    let shown = shows_next _ c.args.self.now c.pages.self c.show_next.new.self c.pages.invariant.goes (c.show_next.ensures.found.0 c.if-show_next.true) c.show_next.ensures.fed.text (c.show_next.ensures.shows c.if-show_next.true) in
    record {
      room = shown.room;
      reach = shown.reach;
      kept = shown.kept;
      open_page = shown.open_page;
      weights = shown.weights;
      among = shown.among;
      readable = shown.readable;
    }

pub returns-in-Ok-false-clause-keeps : goal.returns-in-Ok-false-clause-keeps
returns-in-Ok-false-clause-keeps g c =
    let goes = goes_after _ _ c.args.self.now c.put_all_away.new.self c.give_next.new.self c.pages.invariant.tells (goes_before _ c.args.self.now c.pages.self c.show_next.new.self c.put_all_away.new.self c.pages.invariant.goes (c.show_next.ensures.none c.if-show_next.false) c.put_all_away.ensures.puts) c.give_next.ensures.goes in
    keeps_pages _ c.args.self.now c.give_next.new.self goes

pub returns-in-Err-clause-keeps : goal.returns-in-Err-clause-keeps
returns-in-Err-clause-keeps g c =
    let goes = goes_after _ _ c.args.self.now c.put_all_away.new.self c.give_next.new.self c.pages.invariant.tells (goes_before _ c.args.self.now c.pages.self c.show_next.new.self c.put_all_away.new.self c.pages.invariant.goes (c.show_next.ensures.none c.if-show_next.false) c.put_all_away.ensures.puts) c.give_next.ensures.goes in
    keeps_pages _ c.args.self.now c.give_next.new.self goes

pub returns-in-Ok-false-clause-shows : goal.returns-in-Ok-false-clause-shows
returns-in-Ok-false-clause-shows g c =
    let goes = goes_after _ _ c.args.self.now c.put_all_away.new.self c.give_next.new.self c.pages.invariant.tells (goes_before _ c.args.self.now c.pages.self c.show_next.new.self c.put_all_away.new.self c.pages.invariant.goes (c.show_next.ensures.none c.if-show_next.false) c.put_all_away.ensures.puts) c.give_next.ensures.goes in
    (started_on c.args.self.now c.give_next.new.self goes.weights goes.reach c.requires.started, none_shown c.end_of_text.result c.give_next.new.self.shown c.give_next.ensures.none c.end_of_text.ensures.none)

pub returns-in-Err-clause-shows : goal.returns-in-Err-clause-shows
returns-in-Err-clause-shows g c =
    let goes = goes_after _ _ c.args.self.now c.put_all_away.new.self c.give_next.new.self c.pages.invariant.tells (goes_before _ c.args.self.now c.pages.self c.show_next.new.self c.put_all_away.new.self c.pages.invariant.goes (c.show_next.ensures.none c.if-show_next.false) c.put_all_away.ensures.puts) c.give_next.ensures.goes in
    (started_on c.args.self.now c.give_next.new.self goes.weights goes.reach c.requires.started, c.give_next.ensures.none)
