-- One page more was moved.
use Rattle.std.proofs.Common.{◌≡◌, ◌∷◌, ◌++◌, [], drop, take, sym, ap, ◌∙◌, arith, append_assoc}
use Rattle.page_feed.proofs.ListLemmas.{drop_next, take_next}
use Rattle.page_feed.proofs.lists.withdraw.Goals as goal

pub loop-preserved : goal.loop-preserved
loop-preserved c =
    let ps = c.args.reader.now.pages in
    let next : drop c.loop.counter ps ≡ c.in-Some.page ∷ c.withdraw.new.self.pages = sym c.loop.invariant.pages ∙ c.in-Some.ensures.pages in
    record {
      moved =
          c.push_reserved.ensures.items ∙ ap (λ qs. qs ++ c.in-Some.page ∷ []) c.loop.invariant.moved
          ∙ append_assoc c.args.to.now.items (take c.loop.counter ps) (c.in-Some.page ∷ []) ∙ ap (λ qs. c.args.to.now.items ++ qs) (sym (take_next ps c.withdraw.new.self.pages c.loop.counter c.in-Some.page next));
      len = omega (arith, c.push_reserved.ensures.len, c.loop.invariant.len);
      pages = sym (drop_next ps c.withdraw.new.self.pages c.loop.counter c.in-Some.page next);
      capacity = c.push_reserved.ensures.capacity ∙ c.loop.invariant.capacity;
      room = c.withdraw.ensures.room ∙ c.loop.invariant.room;
    }
