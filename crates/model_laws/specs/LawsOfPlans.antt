use Rattle.std.specs.Prelude.{◌≡◌, ℕ, List}
use Rattle.std.specs.List.{AllZip}
use Rattle.flow_types.specs.SameBags.{SameBag}
use Rattle.flow_model.specs.declared.plan.Plan.{Plan}
use Rattle.flow_model.specs.Env.{Tuples}
use Rattle.flow_model.specs.Algebra.{eval, supersteps}
use Rattle.flow_model.specs.Full.{full}

-- The law of bags, whole: what a plan gives depends on the bags of its inputs alone.

-- as many inputs, list by list the same bags
abbrev pub AreSameBags : List Tuples → List Tuples → Type 0
AreSameBags = AllZip SameBag

-- Of inputs that are the same bags the results of any plan are the same bag, it takes as many supersteps, and for
-- every number of workers and every budget it is full by the same numbers or not at all.
pub record PlansKeepBags : Type 0 where
  pub result :
      (plan : Plan) (inputs others : List Tuples) → AreSameBags inputs others → SameBag (eval plan inputs) (eval plan others)
  pub steps :
      (plan : Plan) (inputs others : List Tuples) → AreSameBags inputs others →
      supersteps plan inputs ≡ supersteps plan others
  pub fullness :
      (plan : Plan) (inputs others : List Tuples) → AreSameBags inputs others →
      (workers budget : ℕ) → full plan inputs workers budget ≡ full plan others workers budget
