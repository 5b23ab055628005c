use Rattle.flow_types.specs.SameBags.{SameBag}
use Rattle.flow_types.proofs.BagLaws.{same-refl, same-sym}
use Rattle.flow_types.proofs.laws.same_bag_is_equivalence.Goals as goal

pub returns : goal.returns
returns g c = record {
  itself = same-refl;
  back = λ xs ys s. same-sym s;
  on = λ xs ys zs s t. SameBag.join s t;
}
