-- One page more was moved.
use Rattle.std.proofs.Common.{◌≡◌, ◌∷◌, [], drop, length, sym, ap, ◌∙◌, arith, length-append}
use Rattle.page_feed.proofs.ListLemmas.{drop_next, weigh_next}
use Rattle.page_feed.proofs.lists.withdraw_lent.Goals as goal

pub loop-preserved : goal.loop-preserved
loop-preserved c =
    let ps = c.args.reader.now.pages in
    let next : drop c.loop.counter ps ≡ c.in-Some.page ∷ c.withdraw.new.self.pages = sym c.loop.invariant.pages ∙ c.in-Some.ensures.pages in
    record {
      pages = sym (drop_next ps c.withdraw.new.self.pages c.loop.counter c.in-Some.page next);
      room = c.withdraw.ensures.room ∙ c.loop.invariant.room;
      purse_room = c.put.ensures.room ∙ c.loop.invariant.purse_room;
      count = omega (arith, ap length c.put.ensures.pages, length-append c.loop.purse.pages (c.in-Some.page ∷ []), c.loop.invariant.count);
      segments = λ h. omega (arith, c.put.ensures.segments h, c.loop.invariant.segments h, weigh_next h ps c.withdraw.new.self.pages c.loop.counter c.in-Some.page next);
    }
