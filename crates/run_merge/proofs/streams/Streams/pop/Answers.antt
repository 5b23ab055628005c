use Rattle.std.proofs.Common.{◌≡◌, List, [], ◌∷◌, ◌++◌, MatchOption, vec_len, sym, ap, ◌∙◌, refl, subst}
use Rattle.run_merge.specs.Collected.{Collected}
use Rattle.run_merge.specs.declared.source.Source.{Source}
use Rattle.run_merge.proofs.TakeLemmas.{last_out, none_out}
use Rattle.run_merge.proofs.streams.Streams.pop.Goals as goal
use Rattle.run_merge.proofs.streams.Streams.pop.Goals.{in-Some, in-None}

pub returns-clause-last : goal.returns-clause-last
returns-clause-last g c =
    elim c.match-pop.branch [
      | in-Some w ↦ last_out _ _ _ w.in-Some.source _ w.result-is (sym (ap (λ v. v.sources) c.self.view_is) ∙ w.in-Some.ensures.items) refl
      | in-None w ↦ subst (λ (xs : List (Source g.row.R.Denot)). MatchOption c.match-pop.result ((xs ≡ []) × (c.pop.new.self.items ≡ [])) (λ stream. (x : Source g.row.R.Denot) × (xs ≡ c.pop.new.self.items ++ x ∷ []) × (x.stream ≡ stream)))
          (ap (λ (v : Collected g.row.R.Denot). v.sources) c.self.view_is)
          (none_out c.self.inside.items.items c.pop.new.self.items c.match-pop.result (vec_len c.self.inside.items) _ w.result-is w.in-None.ensures.cases.0 c.self.invariant.0 c.pop.ensures.rest)
    ]
