-- The values of columns are a tuple of the columns' types.
use Rattle.std.proofs.Common.{◌≡◌, true, List, [], ◌∷◌, ◌++◌, map, refl}
use Rattle.std.specs.List.{AllZip, list_all}
use Rattle.std.proofs.lemmas.List.Folds.{list_all-append}
use Rattle.flow_types.specs.declared.expr.Expr.{Expr}
use Rattle.flow_types.specs.Values.{is_value}
use Rattle.flow_types.specs.Tuples.{Tuple}
use Rattle.flow_types.specs.Types.{Fields, fits, fits_field}
use Rattle.flow_types.specs.Records.{IsTupleOf}
use Rattle.flow_types.specs.Expressions.{val}
use Rattle.flow_types.specs.LawsOfTypes.{HasType}
use Rattle.flow_types.proofs.ValueLemmas.{both_true, both_pass}
use Rattle.flow_types.proofs.TypeLaws.{value_fits}
use Rattle.flow_types.proofs.SoundLaws.{typed_value}

module _ (fields : Fields) (t : Tuple) (row : IsTupleOf fields t) where
  columns_fit : (es : List Expr) (types : Fields) → AllZip (HasType fields) es types → fits types (map (val t) es) ≡ true
  columns_fit [] [] h = refl
  columns_fit [] (f ∷ types) h = absurd h
  columns_fit (e ∷ es) [] h = absurd h
  columns_fit (e ∷ es) (f ∷ types) h =
      both_pass (fits_field f (val t e)) (fits types (map (val t) es)) (value_fits fields t row.fitting e f h.0.typed) (columns_fit es types h.1)

  columns_hold : (es : List Expr) (types : Fields) → AllZip (HasType fields) es types → list_all is_value (map (val t) es) ≡ true
  columns_hold [] [] h = refl
  columns_hold [] (f ∷ types) h = absurd h
  columns_hold (e ∷ es) [] h = absurd h
  columns_hold (e ∷ es) (f ∷ types) h =
      both_pass (is_value (val t e)) (list_all is_value (map (val t) es)) (typed_value fields t row.fitting row.values e f h.0) (columns_hold es types h.1)

  pub tuple-columns : (es : List Expr) (types : Fields) → AllZip (HasType fields) es types → IsTupleOf types (map (val t) es)
  tuple-columns es types h = record { fitting = columns_fit es types h; values = columns_hold es types h }

pub fits-append : (left right : Fields) (t u : Tuple) → fits left t ≡ true → fits right u ≡ true → fits (left ++ right) (t ++ u) ≡ true
fits-append [] right [] u g h = h
fits-append [] right (v ∷ t) u g h = cc
fits-append (f ∷ left) right [] u g h = cc
fits-append (f ∷ left) right (v ∷ t) u g h =
    let both = both_true (fits_field f v) (fits left t) g in
    both_pass (fits_field f v) (fits (left ++ right) (t ++ u)) both.0 (fits-append left right t u both.1 h)

pub tuple-append : (left right : Fields) (t u : Tuple) → IsTupleOf left t → IsTupleOf right u → IsTupleOf (left ++ right) (t ++ u)
tuple-append left right t u g h =
    record { fitting = fits-append left right t u g.fitting h.fitting; values = rw list_all-append (both_pass (list_all is_value t) (list_all is_value u) g.values h.values) }
