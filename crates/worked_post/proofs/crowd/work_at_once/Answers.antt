use Rattle.std.proofs.Common.{◌≡◌, ℕ, ◌∙◌, ap, length, arith, rules}
use Rattle.std.proofs.lemmas.List.Elements.{All-same}
use Rattle.worked_post.specs.Crowd.{IsAt, all_given, all_got, all_here}
use Rattle.worked_post.proofs.CrowdLemmas.{EachLater, each_here, each_swaps, written}
use Rattle.worked_post.proofs.crowd.work_at_once.Goals as goal
use Rattle.worked_post.proofs.crowd.work_at_once.Goals.{After-for_each_mut}

-- as many members as before, each of which worked
len : (g : _) (c : After-for_each_mut g) → length c.as_mut_slice-members.result.now ≡ length c.for_each_mut.new.s
len g c = search rules

whole : (g : _) (c : After-for_each_mut g) → length c.for_each_mut.new.s ≡ c.args.members.now.len
whole g c = search rules

each : (g : _) (c : After-for_each_mut g) → EachLater c.args.post.now c.as_mut_slice-members.result.now c.for_each_mut.new.s
each g c i d near = let k = (c.for_each_mut.ensures i d near).1 in search rules

pub returns-clause-at : goal.returns-clause-at
returns-clause-at g c =
    let at = (goal.at.returns-clause-at g c).After-for_each_mut in
    All-same (IsAt c.args.post.now) _ c.for_each_mut.new.s (written c.args.members.now.len c.for_each_mut.new.s c.args.members.now.items (whole g at))
    (λ k d near. (each g at k d (omega (arith, len g at))).0)

pub returns-clause-here : goal.returns-clause-here
returns-clause-here g c =
    let at = (goal.at.returns-clause-here g c).After-for_each_mut in
    ap all_here (written c.args.members.now.len c.for_each_mut.new.s c.args.members.now.items (whole g at))
    ∙ each_here c.args.post.now c.as_mut_slice-members.result.now c.for_each_mut.new.s (len g at) (each g at) ∙ ap all_here c.as_mut_slice-members.ensures.value

pub returns-clause-swaps : goal.returns-clause-swaps
returns-clause-swaps g c = λ h.
    let at = (goal.at.returns-clause-swaps g c).After-for_each_mut in
    let n : ℕ = c.args.post.now.size in
    let is = written c.args.members.now.len c.for_each_mut.new.s c.args.members.now.items (whole g at) in
    omega (
      arith,
      ap (all_given h n) is,
      ap (all_got h n) is,
      ap (all_given h n) c.as_mut_slice-members.ensures.value,
      ap (all_got h n) c.as_mut_slice-members.ensures.value,
      each_swaps c.args.post.now h c.as_mut_slice-members.result.now c.for_each_mut.new.s (len g at) (each g at),
    )
