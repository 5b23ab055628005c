use Rattle.std.proofs.Common.{◌≡◌, ℕ, ◌+◌, ◌-◌, List, [], ◌∷◌, ◌++◌, ◌∙◌, ap, sym, subst, All, arith, append_assoc}
use Rattle.std.proofs.lemmas.List.Elements.{All-push}
use Rattle.segment_core.specs.Segments.{PurseView, segment_sum}
use Rattle.post_table.specs.Pairs.{workers_below}
use Rattle.worked_post.specs.Crowd.{IsAt, all_given, all_got, all_here}
use Rattle.worked_post.specs.declared.crowd.Member.{Member}
use Rattle.worked_post.proofs.CrowdLemmas.{below_is, given_push, got_push, here_push, unused_in, unused_out}
use Rattle.worked_post.proofs.crossing.seat_all.Goals as goal

pub seat_one-requires-clause-sized : goal.seat_one-requires-clause-sized
seat_one-requires-clause-sized g c = (c.hand_of-hand.ensures.sized c.args.post.now.size c.workers.invariant.sized).1

pub workers-preserved : goal.workers-preserved
workers-preserved g c =
    let inv = c.workers.invariant in
    let before : List Member = c.workers.members.items in
    let member : Member = c.seat_one.result in
    let left : ℕ = c.workers.left - 1 in
    let pushed : c.push_reserved.new.self.items ≡ before ++ member ∷ [] = c.push_reserved.ensures.items in
    let hand : member.hand ≡ c.hand_of-hand.result = c.seat_one.ensures.hand in
    let one_more : c.workers.left ≡ left + 1 = omega (arith, c.workers-test.true) in
    record {
      made = c.seat_one.ensures.made;
      left = omega (arith, inv.left);
      here = c.seat_one.ensures.left;
      members_here =
          ap (λ (l : List Member). all_here l ++ workers_below left) pushed ∙ ap (λ (l : List ℕ). l ++ workers_below left) (here_push before member)
          ∙ ap (λ (l : List ℕ). (all_here before ++ l) ++ workers_below left) c.seat_one.ensures.here ∙ append_assoc (all_here before) (left ∷ []) (workers_below left)
          ∙ ap (λ (l : List ℕ). all_here before ++ l) (sym (below_is left)) ∙ ap (λ (n : ℕ). all_here before ++ workers_below n) (sym one_more) ∙ inv.members_here;
      unused = c.seat_one.ensures.unused.0;
      sized = (c.hand_of-hand.ensures.sized c.args.post.now.size inv.sized).0;
      at = subst (λ (l : List Member). All (IsAt c.args.post.now) l) (sym pushed) (All-push (IsAt c.args.post.now) before member inv.at c.seat_one.ensures.at);
      count = omega (arith, inv.count, c.push_reserved.ensures.len);
      capacity = c.push_reserved.ensures.capacity ∙ inv.capacity;
      room = c.hand_of-hand.ensures.all.0 ∙ inv.room;
      len = omega (arith, inv.len, c.push_reserved.ensures.len, c.hand_of-hand.ensures.all.1);
      got = λ h n. omega (arith, inv.got h n, ap (all_got h n) pushed, got_push h n before member, unused_out h n member.seat.view c.seat_one.ensures.unused.1);
      given = λ h n. omega (
        arith,
        inv.given h n,
        ap (all_given h n) pushed,
        given_push h n before member,
        unused_in h n member.seat.view c.seat_one.ensures.unused.1,
        ap (λ (p : PurseView). segment_sum h p.pages) hand,
        c.hand_of-hand.ensures.segments h,
      );
    }
