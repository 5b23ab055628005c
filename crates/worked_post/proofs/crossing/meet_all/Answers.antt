use Rattle.std.proofs.Common.{◌≡◌, ℕ, ◌||◌, true, List, [], ◌∷◌, ◌++◌, ◌∙◌, ap, sym, arith}
use Rattle.std.specs.Prelude.{⊤}
use Rattle.std.proofs.lemmas.List.Elements.{All-pop}
use Rattle.std.proofs.lemmas.Option.{MatchOption-at_some}
use Rattle.post_table.specs.Views.{is_among}
use Rattle.worked_post.specs.Crowd.{IsAt, all_given, all_got, all_here}
use Rattle.worked_post.specs.declared.crowd.Member.{Member}
use Rattle.worked_post.proofs.CrowdLemmas.{among_moves, given_push, got_push, here_push}
use Rattle.worked_post.proofs.crossing.meet_all.Goals as goal

pub meet_one-requires-clause-made : goal.meet_one-requires-clause-made
meet_one-requires-clause-made g c = (
  c.members.invariant.made,
  MatchOption-at_some ⊤ (IsAt c.args.post.now) c.in-Some.member c.in-Some.is (All-pop (IsAt c.args.post.now) c.members.members.items c.pop.new.self.items c.pop.result c.pop.ensures.items c.members.invariant.at).1,
)

pub members-preserved : goal.members-preserved
members-preserved g c =
    let inv = c.members.invariant in
    let left : List Member = c.pop.new.self.items in
    let member : Member = c.in-Some.member in
    let popped : c.members.members.items ≡ left ++ member ∷ [] = c.in-Some.ensures.items in
    let was : List ℕ = c.members.main.view.here in
    record {
      made = c.meet_one.ensures.made;
      at = (All-pop (IsAt c.args.post.now) c.members.members.items left c.pop.result c.pop.ensures.items inv.at).0;
      here = λ i among.
          let before : (is_among i was || is_among i (all_here left ++ member.seat.view.here)) ≡ true =
          ap (λ (l : List ℕ). is_among i was || is_among i l) (sym (ap all_here popped ∙ here_push left member)) ∙ inv.here i among in
          ap (λ (l : List ℕ). is_among i l || is_among i (all_here left)) c.meet_one.ensures.here ∙ among_moves i was (all_here left) member.seat.view.here before;
      room = c.meet_one.ensures.all.0 ∙ inv.room;
      len = omega (arith, inv.len, c.meet_one.ensures.all.1, c.in-Some.ensures.len);
      given = λ h n. omega (arith, inv.given h n, ap (all_given h n) popped, given_push h n left member, c.meet_one.ensures.given h n);
      got = λ h n. omega (arith, inv.got h n, ap (all_got h n) popped, got_push h n left member, c.meet_one.ensures.got h n);
    }
