-- Operations without a key, piece by piece.
use Rattle.std.proofs.Common.{◌≡◌, Bool, List, [], ◌∷◌, ◌++◌, map, filter, refl, sym, ap, ◌∙◌}
use Rattle.std.specs.List.{flat_map}
use Rattle.std.proofs.lemmas.List.{map-append}
use Rattle.std.proofs.lemmas.List.Elements.{filter-append}
use Rattle.flow_model.specs.Env.{Tuples}
use Rattle.flow_types.specs.Tuples.{Tuple}
use Rattle.model_laws.specs.LawsOfParts.{whole}
use Rattle.model_laws.proofs.ListSplits.{flat_map-flat_map}

pub map-pieces : (f : Tuple → Tuple) (pieces : List Tuples) → flat_map (map f) pieces ≡ map f (whole pieces)
map-pieces f [] = refl
map-pieces f (xs ∷ pieces) = ap (λ ys. map f xs ++ ys) (map-pieces f pieces) ∙ sym (map-append f xs (whole pieces))

pub filter-pieces : (p : Tuple → Bool) (pieces : List Tuples) → flat_map (filter p) pieces ≡ filter p (whole pieces)
filter-pieces p [] = refl
filter-pieces p (xs ∷ pieces) = ap (λ ys. filter p xs ++ ys) (filter-pieces p pieces) ∙ sym (filter-append p xs (whole pieces))

pub flat_map-pieces : (f : Tuple → Tuples) (pieces : List Tuples) → flat_map (flat_map f) pieces ≡ flat_map f (whole pieces)
flat_map-pieces f pieces = flat_map-flat_map f (λ xs. xs) pieces
