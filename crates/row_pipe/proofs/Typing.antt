-- A node of an accepted plan: its expressions are typed over the rows that it takes, and what it gives is no wider than
-- its schema.
use Rattle.std.proofs.Common.{◌≡◌, ℕ, ◌≤◌, Bool, true, false, ◌&&◌, cond, All, List, [], ◌∷◌, length, map, take, nat_le, Option, Some, is_some, IfSome, refl, sym, ap, ◌∙◌, subst, arith, append-nil}
use Rattle.std.specs.List.{filter, list_all, AllByRecursion, AllZip}
use Rattle.std.proofs.lemmas.Bool.{leb-true}
use Rattle.std.proofs.lemmas.Bool.Decides.{nat_tests}
use Rattle.std.proofs.Math.Seq.{take-length}
use Rattle.std.proofs.lemmas.List.Elements.{All-nil, All-cons}
use Rattle.std.proofs.lemmas.List.Sums.{sum_by-cons}
use Rattle.std.proofs.lemmas.Option.{option_and_then_some}
use Rattle.flow_types.specs.Limits.{record_limit}
use Rattle.flow_types.specs.declared.field_type.FieldType.{FieldType}
use Rattle.flow_types.specs.declared.field_type.FieldType.TheVariants as type
use Rattle.flow_types.specs.declared.expr.Expr.{Expr}
use Rattle.flow_types.specs.Values.{flag_of}
use Rattle.flow_types.specs.Tuples.{Tuple}
use Rattle.flow_types.specs.Types.{Fields, width, widest}
use Rattle.flow_types.specs.Records.{IsTupleOf, form}
use Rattle.flow_types.specs.Expressions.{val}
use Rattle.flow_types.specs.ExprTypes.{◌>>=◌, type_of, typing_of, is_limited}
use Rattle.flow_types.proofs.ValueLemmas.{both_true, both_pass}
use Rattle.record_codec.proofs.RecordLemmas.{form_widest}
use Rattle.flow_model.specs.declared.op.Branch.{Branch}
use Rattle.flow_model.specs.declared.op.Op.{Op}
use Rattle.flow_model.specs.declared.op.Op.TheVariants as op
use Rattle.flow_model.specs.declared.plan.Node.{Node}
use Rattle.flow_model.specs.Rows.{branch_rows, columns_of}
use Rattle.flow_model.specs.Rules.{are_columns, is_branch, in_range, is_fields, is_from}
use Rattle.flow_model.specs.Schemas.{all_widened, are_narrow, both_widened, branch_type, branch_types, columns_type, fits_schema, input_at, is_test, only_if, op_type, takes, tested, types_of}
use Rattle.model_laws.proofs.SchemaLaws.{both_widened-fit, same_fields}
use Rattle.expr_core.specs.Needs.{are_typed, is_typed, width_of_type, widest_of}
use Rattle.expr_core.proofs.ColumnLemmas.{front_wide}
use Rattle.row_pipe.specs.Works.{GivesNarrow, are_columns_over, is_branch_over, is_test_over, is_work_over, taken_by, taken_of, work_of}
use Rattle.row_pipe.specs.declared.work.Work.{Work}

only_if_some : {A : Type 0} (b : Bool) (x y : A) → only_if b x ≡ Some y → (b ≡ true) × (x ≡ y)
only_if_some true x y h = let same : x ≡ y = cc in (refl, same)
only_if_some false x y h = cc

-- Columns that have a schema have types, one by one.
zip_of : (fields : Fields) (columns : List Expr) (types : Fields) → types_of fields columns ≡ Some types → AllZip (λ e f. type_of fields e ≡ Some f) columns types
zip_of fields [] types h = let none : [] ≡ types = cc in subst (AllZip (λ e f. type_of fields e ≡ Some f) []) none tt
zip_of fields (e ∷ es) types h =
    option_and_then_some _ (type_of fields e) types h (λ f p q. option_and_then_some _ (types_of fields es) types q (λ fs r s.
    let cons : f ∷ fs ≡ types = cc in
    subst (AllZip (λ e f. type_of fields e ≡ Some f) (e ∷ es)) cons (p, zip_of fields es fs r)))

typed_all : (fields : Fields) (columns : List Expr) (types : Fields) → AllZip (λ e f. type_of fields e ≡ Some f) columns types → are_narrow fields columns ≡ true → list_all is_limited columns ≡ true → are_typed fields columns ≡ true
typed_all fields [] types h narrow limited = refl
typed_all fields (e ∷ es) [] h narrow limited = absurd h
typed_all fields (e ∷ es) (f ∷ fs) h narrow limited =
    let n = both_true (typing_of fields e).narrow (are_narrow fields es) narrow in
    let l = both_true (is_limited e) (list_all is_limited es) limited in
    both_pass (is_typed fields e && is_limited e) (are_typed fields es)
    (both_pass (is_typed fields e) (is_limited e) (both_pass (is_some (type_of fields e)) (typing_of fields e).narrow (ap is_some h.0) n.0) l.0)
    (typed_all fields es fs h.1 n.1 l.1)

columns_wide : (fields : Fields) (columns : List Expr) (types : Fields) → AllZip (λ e f. type_of fields e ≡ Some f) columns types → widest_of fields columns ≡ widest types
columns_wide fields [] [] h = refl
columns_wide fields [] (f ∷ types) h = absurd h
columns_wide fields (e ∷ es) [] h = absurd h
columns_wide fields (e ∷ es) (f ∷ types) h =
    omega (arith, sum_by-cons (λ e. width_of_type (type_of fields e)) e es, ap width_of_type h.0, columns_wide fields es types h.1, sum_by-cons width f types)

-- Columns that have a schema are typed, and are no wider than it.
columns_typed : (fields : Fields) (columns : List Expr) (types : Fields) → columns_type fields columns ≡ Some types → list_all is_limited columns ≡ true
    → (are_typed fields columns ≡ true) × (widest_of fields columns ≡ widest types)
columns_typed fields columns types h limited =
    option_and_then_some _ (types_of fields columns) types h (λ found p q.
    let one = only_if_some (are_narrow fields columns) found types q in
    let zip : AllZip (λ e f. type_of fields e ≡ Some f) columns found = zip_of fields columns found p in
    (typed_all fields columns found zip one.0 limited, columns_wide fields columns found zip ∙ ap widest one.1))

within_limit : (n : ℕ) → n ≤ record_limit → nat_le n record_limit ≡ true
within_limit n low = grind (arith, nat_tests)

columns_over : (fields : Fields) (columns : List Expr) (types : Fields) → columns_type fields columns ≡ Some types → list_all is_limited columns ≡ true → widest types ≤ record_limit
    → are_columns_over fields columns ≡ true
columns_over fields columns types h limited small =
    let both = columns_typed fields columns types h limited in
    both_pass (are_typed fields columns) (nat_le (widest_of fields columns) record_limit) both.0 (within_limit (widest_of fields columns) (omega (arith, both.1, small)))

limited_in : (columns : List Expr) → are_columns columns ≡ true → list_all is_limited columns ≡ true
limited_in columns h = (both_true (is_from 1 32 (length columns)) (list_all is_limited columns) h).1

-- A schema that fits another is no wider.
width_takes : (g f : FieldType) → takes g f ≡ true → width f ≤ width g
width_takes type.Long type.Long h = omega arith
width_takes type.Bool type.Bool h = omega arith
width_takes (type.Str m) (type.Str n) h = omega (arith, leb-true n m h)
width_takes type.Long type.Bool h = cc
width_takes type.Long (type.Str n) h = cc
width_takes type.Bool type.Long h = cc
width_takes type.Bool (type.Str n) h = cc
width_takes (type.Str m) type.Long h = cc
width_takes (type.Str m) type.Bool h = cc

pub widest_fits : (fs gs : Fields) → fits_schema fs gs ≡ true → widest fs ≤ widest gs
widest_fits [] [] h = omega arith
widest_fits [] (g ∷ gs) h = cc
widest_fits (f ∷ fs) [] h = cc
widest_fits (f ∷ fs) (g ∷ gs) h =
    let both = both_true (takes g f) (fits_schema fs gs) h in
    omega (arith, width_takes g f both.0, widest_fits fs gs both.1, sum_by-cons width f fs, sum_by-cons width g gs)

widened_wide : (lists : List Fields) (hs : Fields) → all_widened lists ≡ Some hs → AllByRecursion (λ ts. widest ts ≤ widest hs) lists
widened_wide [] hs h = cc
widened_wide (fs ∷ []) hs h = let same : fs ≡ hs = cc in (omega (arith, ap widest same), tt)
widened_wide (fs ∷ gs ∷ rest) hs h =
    option_and_then_some (both_widened fs) (all_widened (gs ∷ rest)) hs h (λ ks p q.
    let both = both_widened-fit fs ks hs q in
    (widest_fits fs hs both.0, less (widest ks) (widest hs) (widest_fits ks hs both.1) (gs ∷ rest) (widened_wide (gs ∷ rest) ks p)))
  where
    less : (m n : ℕ) → m ≤ n → (lists : List Fields) → AllByRecursion (λ ts. widest ts ≤ m) lists → AllByRecursion (λ ts. widest ts ≤ n) lists
    less m n low [] h = tt
    less m n low (ls ∷ lists) h = (omega (arith, low, h.0), less m n low lists h.1)

tested_over : (fields : Fields) (test : Expr) (types : Fields) → tested fields test ≡ Some types → is_limited test ≡ true → (is_test_over fields test ≡ true) × (fields ≡ types)
tested_over fields test types h limited =
    let one = only_if_some (is_test fields test && (typing_of fields test).narrow) fields types h in
    let both = both_true (is_test fields test) (typing_of fields test).narrow one.0 in
    (both_pass (is_test fields test) ((typing_of fields test).narrow && is_limited test) both.0 (both_pass (typing_of fields test).narrow (is_limited test) both.1 limited), one.1)

branch_over : (fields : Fields) (branch : Branch) (types : Fields) → branch_type fields branch ≡ Some types → is_branch branch ≡ true → widest types ≤ record_limit
    → (is_branch_over fields branch ≡ true) × (widest_of fields branch.columns ≡ widest types)
branch_over fields branch types h ranged small =
    let r = both_true (is_limited branch.when) (are_columns branch.columns) ranged in
    option_and_then_some _ (tested fields branch.when) types h (λ ws p q. (
      both_pass (is_test_over fields branch.when) (are_columns_over fields branch.columns)
          (tested_over fields branch.when ws p r.0).0 (columns_over fields branch.columns types q (limited_in branch.columns r.1) small),
      (columns_typed fields branch.columns types q (limited_in branch.columns r.1)).1,
    ))

branches_over : (fields : Fields) (n : ℕ) → n ≤ record_limit → (branches : List Branch) (lists : List Fields) → branch_types fields branches ≡ Some lists → list_all is_branch branches ≡ true
    → AllByRecursion (λ ts. widest ts ≤ n) lists
    → (list_all (is_branch_over fields) branches ≡ true) × AllByRecursion (λ (b : Branch). widest_of fields b.columns ≤ n) branches
branches_over fields n low [] lists h ranged wide = (refl, tt)
branches_over fields n low (b ∷ bs) lists h ranged wide =
    let r = both_true (is_branch b) (list_all is_branch bs) ranged in
    option_and_then_some _ (branch_type fields b) lists h (λ ts p q. option_and_then_some _ (branch_types fields bs) lists q (λ rest x y.
    let cons : ts ∷ rest ≡ lists = cc in
    let all : AllByRecursion (λ us. widest us ≤ n) (ts ∷ rest) = subst (AllByRecursion (λ us. widest us ≤ n)) (sym cons) wide in
    let one = branch_over fields b ts p r.0 (omega (arith, low, all.0)) in
    let others = branches_over fields n low bs rest x r.1 all.1 in
    (both_pass (is_branch_over fields b) (list_all (is_branch_over fields) bs) one.0 others.0, (omega (arith, one.1, all.0), others.1))))

-- What is given of a row is no wider.
module _ (fields : Fields) (t : Tuple) (row : IsTupleOf fields t) where
  columns_narrow : (columns : List Expr) → are_typed fields columns ≡ true → length (form (columns_of columns t)) ≤ widest_of fields columns
  columns_narrow columns typed =
      let all : take (length columns) columns ≡ columns = take-length columns in
      subst (λ es. length (form (map (λ e. val t e) es)) ≤ widest_of fields columns) all (front_wide fields t row.fitting columns (length columns) typed)

  test_narrow : (n : ℕ) (b : Bool) → widest fields ≤ n → All (λ u. length (form u) ≤ n) (cond b (t ∷ []) [])
  test_narrow n true low = All-cons (λ u. length (form u) ≤ n) t [] (omega (arith, low, form_widest fields t row.fitting)) (All-nil (λ u. length (form u) ≤ n))
  test_narrow n false low = All-nil (λ u. length (form u) ≤ n)

  branch_narrow : (n : ℕ) (b : Branch) (bs : List Branch) (passes : Bool) → length (form (columns_of b.columns t)) ≤ n → All (λ u. length (form u) ≤ n) (map (λ (x : Branch). columns_of x.columns t) bs)
      → All (λ u. length (form u) ≤ n) (map (λ (x : Branch). columns_of x.columns t) (cond passes (b ∷ bs) bs))
  branch_narrow n b bs true low rest = All-cons (λ u. length (form u) ≤ n) (columns_of b.columns t) (map (λ (x : Branch). columns_of x.columns t) bs) low rest
  branch_narrow n b bs false low rest = rest

  branches_narrow : (n : ℕ) (branches : List Branch) → list_all (is_branch_over fields) branches ≡ true → AllByRecursion (λ (b : Branch). widest_of fields b.columns ≤ n) branches
      → All (λ u. length (form u) ≤ n) (branch_rows branches t)
  branches_narrow n [] typed wide = All-nil (λ u. length (form u) ≤ n)
  branches_narrow n (b ∷ bs) typed wide =
      let each = both_true (is_branch_over fields b) (list_all (is_branch_over fields) bs) typed in
      let columns = both_true (is_test_over fields b.when) (are_columns_over fields b.columns) each.0 in
      let are = both_true (are_typed fields b.columns) (nat_le (widest_of fields b.columns) record_limit) columns.1 in
      branch_narrow n b (filter (λ (x : Branch). flag_of (val t x.when)) bs) (flag_of (val t b.when)) (omega (arith, wide.0, columns_narrow b.columns are.0)) (branches_narrow n bs each.1 wide.1)

-- What an op's node keeps, where the op goes row by row.
abbrev pub IsOpened : (o : Op) (inputs : List Fields) (own : Fields) → Type 0
IsOpened o inputs own = IfSome (work_of o) (λ w. (is_work_over (taken_by o inputs own) w ≡ true) × GivesNarrow (taken_by o inputs own) w (widest own))

module _ (inputs : List Fields) (own : Fields) (small : widest own ≤ record_limit) where
  map_opened : (input : ℕ) (columns : List Expr) → are_columns columns ≡ true → columns_type (input_at inputs 0) columns ≡ Some own → IsOpened (op.Map input columns) inputs own
  map_opened input columns ranged typed =
      let fields : Fields = input_at inputs 0 in
      let are = columns_typed fields columns own typed (limited_in columns ranged) in (
        columns_over fields columns own typed (limited_in columns ranged) small,
        λ t row. All-cons (λ u. length (form u) ≤ widest own) (columns_of columns t) [] (omega (arith, columns_narrow fields t row columns are.0, are.1)) (All-nil (λ u. length (form u) ≤ widest own)),
      )

  filter_opened : (input : ℕ) (test : Expr) → is_limited test ≡ true → tested (input_at inputs 0) test ≡ Some own → IsOpened (op.Filter input test) inputs own
  filter_opened input test ranged typed =
      let fields : Fields = input_at inputs 0 in
      let over = tested_over fields test own typed ranged in
      (over.0, λ t row. test_narrow fields t row (widest own) (flag_of (val t test)) (omega (arith, ap widest over.1)))

  flat_map_opened : (input : ℕ) (branches : List Branch) → list_all is_branch branches ≡ true → (branch_types (input_at inputs 0) branches >>= all_widened) ≡ Some own → IsOpened (op.FlatMap input branches) inputs own
  flat_map_opened input branches ranged typed =
      let fields : Fields = input_at inputs 0 in
      option_and_then_some all_widened (branch_types fields branches) own typed (λ lists p q.
      let over = branches_over fields (widest own) small branches lists p ranged (widened_wide lists own q) in
      (over.0, λ t row. subst (All (λ u. length (form u) ≤ widest own)) (sym (append-nil (branch_rows branches t))) (branches_narrow fields t row (widest own) branches over.0 over.1)))

  union_opened : (names : List ℕ) → IsOpened (op.Union names) inputs own
  union_opened names = (refl, λ t row. All-cons (λ u. length (form u) ≤ widest own) t [] (form_widest own t row.fitting) (All-nil (λ u. length (form u) ≤ widest own)))

  pub opened : (o : Op) → in_range o ≡ true → is_fields (op_type inputs [] o) own ≡ true → IsOpened o inputs own
  opened (op.Map input columns) ranged typed = map_opened input columns ranged (same_fields _ own typed)
  opened (op.Filter input test) ranged typed = filter_opened input test ranged (same_fields _ own typed)
  opened (op.FlatMap input rows) ranged typed = flat_map_opened input rows (both_true (is_from 1 8 (length rows)) (list_all is_branch rows) ranged).1 (same_fields _ own typed)
  opened (op.Union names) ranged typed = union_opened names
  opened (op.Source fields delimiter) ranged typed = tt
  opened (op.Distinct input) ranged typed = tt
  opened (op.Group input key aggs combine) ranged typed = tt
  opened (op.Top input key order count) ranged typed = tt
  opened (op.Join left right left_key right_key columns kind left_default right_default) ranged typed = tt
  opened (op.Cogroup left right left_key right_key left_aggs right_aggs) ranged typed = tt
  opened (op.Bulk init bind most next until) ranged typed = tt
  opened (op.Delta solution workset bind key order merge most delta next) ranged typed = tt
  opened (op.Probe input key columns) ranged typed = tt

-- What `open` says of the pipe that it gives.
pub opened_at : (node : Node) (fields : Fields) (w : Work) → fields ≡ taken_of node → Some w ≡ work_of node.op → widest node.schema ≤ record_limit
    → in_range node.op ≡ true → is_fields (op_type node.inputs [] node.op) node.schema ≡ true → (is_work_over fields w ≡ true) × GivesNarrow fields w (widest node.schema)
opened_at node fields w taken is small ranged typed =
    let all : IsOpened node.op node.inputs node.schema = opened node.inputs node.schema small node.op ranged typed in
    subst (λ fs. (is_work_over fs w ≡ true) × GivesNarrow fs w (widest node.schema)) (sym taken)
    (subst (λ (o : Option Work). IfSome o (λ v. (is_work_over (taken_of node) v ≡ true) × GivesNarrow (taken_of node) v (widest node.schema))) (sym is) all)
