-- The oldest page goes to its list.
use Rattle.std.proofs.Common.{◌≡◌, arith}
use Rattle.page_feed.proofs.StepLemmas.{away_on, kept_away, lent_away}
use Rattle.page_feed.proofs.feed.Feed.put_away.Goals as goal

pub returns-then-self-gt0-clause-puts : goal.returns-then-self-gt0-clause-puts
returns-then-self-gt0-clause-puts c = λ done.
    away_on _ _ _ c.self.view_is
    (kept_away _ c.in-Some.page c.spent.new.self c.push_reserved.new.self.items _ c.push_reserved.ensures.items c.in-Some.ensures.pages c.spent.ensures.text c.in-Some.ensures.some c.if-self-gt0.true)

pub returns-clause-puts : goal.returns-clause-puts
returns-clause-puts c = λ done.
    let none : c.self.inside.of_kept ≡ 0 = omega (arith, c.if-self-gt0.false) in
    away_on _ _ _ c.self.view_is
    (lent_away _ c.in-Some.page c.spent.new.self c.push_reserved-2.new.self.items _ c.push_reserved-2.ensures.items c.in-Some.ensures.pages c.spent.ensures.text c.in-Some.ensures.some none (omega (arith, none, c.if-self-eq0.false)))
