-- What is told of all branches is their schema.
use Rattle.std.proofs.Common.{◌≡◌, Bool, true, false, ◌&&◌, List, [], ◌∷◌, map, Option, Some, None, Err, refl, sym, ap, ◌∙◌}
use Rattle.std.specs.Prelude.{is_some, option_map}
use Rattle.std.specs.List.{list_all}
use Rattle.flow_types.specs.declared.field_type.FieldType.{FieldType}
use Rattle.flow_types.specs.Types.{Fields}
use Rattle.flow_types.specs.ExprTypes.{◌>>=◌, widened, typing_of}
use Rattle.flow_model.specs.declared.op.Branch.{Branch}
use Rattle.flow_model.specs.declared.plan_code.PlanCode.TheVariants as code
use Rattle.flow_model.specs.Schemas.{only_if, first_and_others, types_of, is_test, both_widened, all_widened, are_narrow, branch_types}
use Rattle.plan_typing.specs.Typing.{in_types, branch_columns}
use Rattle.plan_typing.specs.Told.{capped, ColumnTypes, behind_test, told_branch, both_columns, told_branches, schema_of_columns}
use Rattle.plan_typing.proofs.ToldLemmas.{capped_widened}
use Rattle.plan_typing.proofs.ColumnLemmas.{column_types}
use Rattle.plan_typing.proofs.OpLemmas.{width_told}

-- lists of types that are told are widened as they are told
both_told : (a b : Fields) → both_widened (map capped a) (map capped b) ≡ option_map (map capped) (both_widened a b)
both_told [] [] = refl
both_told [] (g ∷ gs) = refl
both_told (f ∷ fs) [] = refl
both_told (f ∷ fs) (g ∷ gs) =
    ap (λ o. first_and_others o (both_widened (map capped fs) (map capped gs))) (capped_widened f g)
    ∙ ap (first_and_others (option_map capped (widened f g))) (both_told fs gs)
    ∙ go (widened f g) (both_widened fs gs)
  where
    go : (o : Option FieldType) (os : Option Fields) → first_and_others (option_map capped o) (option_map (map capped) os) ≡ option_map (map capped) (first_and_others o os)
    go None os = refl
    go (Some t) None = refl
    go (Some t) (Some ts) = refl

and_true : (b : Bool) → (b && true) ≡ b
and_true true = refl
and_true false = refl

and_false : (b : Bool) → (b && false) ≡ false
and_false true = refl
and_false false = refl

-- types that are told where tests are of a Bool
abbrev told_behind : Bool → Bool → Fields → Option ColumnTypes
told_behind tests narrow ts = only_if tests (column_types (map capped ts) narrow)

-- two lists of types that are told, widened
two_told : (ts ws : Fields) (n m : Bool) → both_columns (column_types (map capped ts) n) (column_types (map capped ws) m) ≡ (both_widened ts ws >>= told_behind true (n && m))
two_told ts ws n m = ap (option_map (λ us. column_types us (n && m))) (both_told ts ws) ∙ go (both_widened ts ws)
  where
    go : (o : Option Fields) → option_map (λ us. column_types us (n && m)) (option_map (map capped) o) ≡ (o >>= told_behind true (n && m))
    go None = refl
    go (Some us) = refl

-- where a test isn't of a Bool nothing is told
no_test : (o : Option Fields) (n : Bool) → None ≡ (o >>= told_behind false n)
no_test None n = refl
no_test (Some us) n = refl

-- a branch before others, by the types of each
both_behind : (o w : Option Fields) (t r n m : Bool) → (w >>= told_behind r m >>= λ others. (o >>= told_behind t n) >>= λ own. both_columns own others) ≡ (o >>= λ ts. w >>= both_widened ts >>= told_behind (t && r) (n && m))
both_behind None None t r n m = refl
both_behind (Some ts) None t r n m = refl
both_behind None (Some ws) t true n m = refl
both_behind None (Some ws) t false n m = refl
both_behind (Some ts) (Some ws) true true n m = two_told ts ws n m
both_behind (Some ts) (Some ws) false true n m = no_test (both_widened ts ws) (n && m)
both_behind (Some ts) (Some ws) t false n m = no_test (both_widened ts ws) (n && m) ∙ ap (λ b. both_widened ts ws >>= told_behind b (n && m)) (sym (and_false t))

-- the same, where the others are one or more
more_behind : (o p : Option Fields) (q : Option (List Fields)) (t r n m : Bool) → (first_and_others p q >>= all_widened >>= told_behind r m >>= λ others. (o >>= told_behind t n) >>= λ own. both_columns own others) ≡ (first_and_others o (first_and_others p q) >>= all_widened >>= told_behind (t && r) (n && m))
more_behind None None q t r n m = refl
more_behind (Some ts) None q t r n m = refl
more_behind None (Some cs) None t r n m = refl
more_behind (Some ts) (Some cs) None t r n m = refl
more_behind None (Some cs) (Some qs) t r n m = both_behind None (all_widened (cs ∷ qs)) t r n m
more_behind (Some ts) (Some cs) (Some qs) t r n m = go (all_widened (cs ∷ qs))
  where
    go : (w : Option Fields) → (w >>= told_behind r m >>= λ others. (Some ts >>= told_behind t n) >>= λ own. both_columns own others) ≡ (w >>= both_widened ts >>= told_behind (t && r) (n && m))
    go None = refl
    go (Some ws) = both_behind (Some ts) (Some ws) t r n m

-- one branch
one_behind : (o : Option Fields) (t n : Bool) → (o >>= told_behind t n) ≡ (first_and_others o (Some []) >>= all_widened >>= told_behind (t && true) (n && true))
one_behind None t n = refl
one_behind (Some ts) t n = ap (λ b. told_behind b n ts) (sym (and_true t)) ∙ ap (λ b. told_behind (t && true) b ts) (sym (and_true n))

-- All branches

-- no part of a branch is wider than a text
abbrev is_branch_narrow : Fields → Branch → Bool
is_branch_narrow fields b = (typing_of fields b.when).narrow && are_narrow fields b.columns

abbrev are_tests : Fields → List Branch → Bool
are_tests fields bs = list_all (λ (b : Branch). is_test fields b.when) bs

abbrev are_branches_narrow : Fields → List Branch → Bool
are_branches_narrow fields bs = list_all (is_branch_narrow fields) bs

branch_behind : (fields : Fields) (b : Branch) → told_branch fields b ≡ (types_of fields b.columns >>= told_behind (is_test fields b.when) (is_branch_narrow fields b))
branch_behind fields b = go (types_of fields b.columns)
  where
    go : (o : Option Fields) → (option_map (λ ts. column_types (map capped ts) (are_narrow fields b.columns)) o >>= behind_test fields b.when) ≡ (o >>= told_behind (is_test fields b.when) (is_branch_narrow fields b))
    go None = refl
    go (Some ts) = refl

branches_behind : (fields : Fields) (bs : List Branch) → told_branches fields bs ≡ (branch_columns fields bs >>= all_widened >>= told_behind (are_tests fields bs) (are_branches_narrow fields bs))
branches_behind fields [] = refl
branches_behind fields (b ∷ []) = branch_behind fields b ∙ one_behind (types_of fields b.columns) (is_test fields b.when) (is_branch_narrow fields b)
branches_behind fields (b ∷ c ∷ rest) =
    ap (λ o. o >>= λ others. told_branch fields b >>= λ own. both_columns own others) (branches_behind fields (c ∷ rest))
    ∙ ap (λ o. branch_columns fields (c ∷ rest) >>= all_widened >>= told_behind (are_tests fields (c ∷ rest)) (are_branches_narrow fields (c ∷ rest)) >>= λ others. o >>= λ own. both_columns own others) (branch_behind fields b)
    ∙ more_behind (types_of fields b.columns) (types_of fields c.columns) (branch_columns fields rest) (is_test fields b.when) (are_tests fields (c ∷ rest)) (is_branch_narrow fields b) (are_branches_narrow fields (c ∷ rest))

-- The definition of a flat map's schema

-- a branch's schema is its columns' types, where its test is of a Bool and no part is wider than a text
type_behind : (fields : Fields) (o : Option Fields) (t w n : Bool) → (only_if (t && w) fields >>= λ _. o >>= only_if n) ≡ (o >>= only_if (t && (w && n)))
type_behind fields None true true n = refl
type_behind fields None true false n = refl
type_behind fields None false w n = refl
type_behind fields (Some ts) true true n = refl
type_behind fields (Some ts) true false n = refl
type_behind fields (Some ts) false w n = refl

first_behind : (o : Option Fields) (os : Option (List Fields)) (x y : Bool) → first_and_others (o >>= only_if x) (os >>= only_if y) ≡ (first_and_others o os >>= only_if (x && y))
first_behind None os x y = refl
first_behind (Some t) None true y = refl
first_behind (Some t) None false y = refl
first_behind (Some t) (Some ts) true true = refl
first_behind (Some t) (Some ts) true false = refl
first_behind (Some t) (Some ts) false y = refl

regroup : (t r n m : Bool) → ((t && n) && (r && m)) ≡ ((t && r) && (n && m))
regroup true true n m = refl
regroup true false n m = and_false n
regroup false r n m = refl

types_behind : (fields : Fields) (bs : List Branch) → branch_types fields bs ≡ (branch_columns fields bs >>= only_if (are_tests fields bs && are_branches_narrow fields bs))
types_behind fields [] = refl
types_behind fields (b ∷ bs) =
    ap (λ o. first_and_others o (branch_types fields bs)) (type_behind fields (types_of fields b.columns) (is_test fields b.when) (typing_of fields b.when).narrow (are_narrow fields b.columns))
    ∙ ap (first_and_others (types_of fields b.columns >>= only_if (is_test fields b.when && is_branch_narrow fields b))) (types_behind fields bs)
    ∙ first_behind (types_of fields b.columns) (branch_columns fields bs) (is_test fields b.when && is_branch_narrow fields b) (are_tests fields bs && are_branches_narrow fields bs)
    ∙ ap (λ x. branch_columns fields (b ∷ bs) >>= only_if x) (regroup (is_test fields b.when) (are_tests fields bs) (is_branch_narrow fields b) (are_branches_narrow fields bs))

whole : (c : Option (List Fields)) (t n : Bool) → schema_of_columns (c >>= all_widened >>= told_behind t n) ≡ in_types (t && is_some (c >>= all_widened)) (c >>= only_if (t && n) >>= all_widened)
whole None true n = refl
whole None false n = refl
whole (Some cs) true true = go (all_widened cs)
  where
    go : (w : Option Fields) → schema_of_columns (w >>= told_behind true true) ≡ in_types (is_some w) w
    go None = refl
    go (Some ws) = width_told ws
whole (Some cs) true false = go (all_widened cs)
  where
    go : (w : Option Fields) → schema_of_columns (w >>= told_behind true false) ≡ in_types (is_some w) None
    go None = refl
    go (Some ws) = refl
whole (Some cs) false n = go (all_widened cs)
  where
    go : (w : Option Fields) → schema_of_columns (w >>= told_behind false n) ≡ Err code.BadTypes
    go None = refl
    go (Some ws) = refl

-- what is told of all branches is the schema of their rows, or the code that refuses them
pub branches_schema : (fields : Fields) (bs : List Branch) → schema_of_columns (told_branches fields bs) ≡ in_types (list_all (λ (b : Branch). is_test fields b.when) bs && is_some (branch_columns fields bs >>= all_widened)) (branch_types fields bs >>= all_widened)
branches_schema fields bs =
    ap schema_of_columns (branches_behind fields bs)
    ∙ whole (branch_columns fields bs) (are_tests fields bs) (are_branches_narrow fields bs)
    ∙ ap (λ o. in_types (are_tests fields bs && is_some (branch_columns fields bs >>= all_widened)) (o >>= all_widened)) (sym (types_behind fields bs))
