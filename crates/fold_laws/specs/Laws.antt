use Rattle.std.specs.Prelude.{◌≡◌, ℕ, List, [], ◌∷◌, ◌++◌, map, IsTrue, ℤ, Option, Some, None}
use Rattle.std.specs.List.{list_all, flat_map}
use Rattle.flow_types.specs.declared.agg.Agg.{Agg}
use Rattle.flow_types.specs.declared.agg.Agg.TheVariants as agg
use Rattle.flow_types.specs.Values.{is_long, is_value}
use Rattle.flow_types.specs.Tuples.{Tuple}
use Rattle.flow_types.specs.Folds.{fold_of}
use Rattle.flow_types.specs.LawsOfFolds.{merged, kept_of, finished}
use Rattle.flow_types.specs.SameBags.{SameBag}
use Rattle.fold_laws.specs.Parts.{one_row, added, added_all, merged_all, row_value, of_field}

-- Laws of folds that are kept in parts. Each fold's contract says that what its parts stand for is merged, added to and
-- finished as here, so the laws are its own.

-- Merging goes in any order and any grouping, with no rows as what changes nothing; so several parts merge to the same
-- in any order. What is kept of pieces of the rows merges to what is kept of all rows.
pub record PartsMergeInAnyOrder : Type 0 where
  pub either_way : (a : Agg) (p q : Option ℤ) → merged a p q ≡ merged a q p
  pub grouped : (a : Agg) (p q r : Option ℤ) → merged a (merged a p q) r ≡ merged a p (merged a q r)
  pub none_before : (a : Agg) (p : Option ℤ) → merged a None p ≡ p
  pub none_after : (a : Agg) (p : Option ℤ) → merged a p None ≡ p
  pub any_order : (a : Agg) (ps qs : List (Option ℤ)) → SameBag ps qs → merged_all a ps ≡ merged_all a qs
  pub of_pieces : (a : Agg) (pieces : List (List Tuple)) → merged_all a (map (kept_of a) pieces) ≡ kept_of a (flat_map (λ rows. rows) pieces)

-- To add a row is to merge with what is kept of it alone, where its value is a Long's number. A count takes any value.
pub record AddingIsMerging : Type 0 where
  pub alone : (a : Agg) (t : Tuple) → IsTrue (is_long (row_value a t)) → kept_of a (t ∷ []) ≡ Some (one_row a (row_value a t))
  pub more : (a : Agg) (rows : List Tuple) (t : Tuple) → IsTrue (is_long (row_value a t)) → kept_of a (rows ++ t ∷ []) ≡ added a (kept_of a rows) (row_value a t)
  pub any_value : (p : Option ℤ) (v w : ℤ) → added agg.Count p v ≡ added agg.Count p w

-- Adding the values of all rows, and finishing, gives the fold's value over the rows, where the values are Longs'
-- numbers. They are where the rows hold values.
pub record AddingGivesTheFold : Type 0 where
  pub longs : (a : Agg) (rows : List Tuple) → IsTrue (list_all (list_all is_value) rows) → IsTrue (list_all is_long (map (row_value a) rows))
  pub onward : (a : Agg) (before rows : List Tuple) → IsTrue (list_all is_long (map (row_value a) rows)) → added_all a (kept_of a before) (map (row_value a) rows) ≡ kept_of a (before ++ rows)
  pub whole : (a : Agg) (rows : List Tuple) → IsTrue (list_all is_long (map (row_value a) rows)) → finished a (added_all a None (map (row_value a) rows)) ≡ fold_of a rows

-- What parts stand for is merged, added to and finished alike whatever the number of the fold's field is.
pub record FieldsDoNotCount : Type 0 where
  pub merging : (k : ℕ) (a : Agg) (p q : Option ℤ) → merged (of_field k a) p q ≡ merged a p q
  pub adding : (k : ℕ) (a : Agg) (p : Option ℤ) (v : ℤ) → added (of_field k a) p v ≡ added a p v
  pub finishing : (k : ℕ) (a : Agg) (p : Option ℤ) → finished (of_field k a) p ≡ finished a p
