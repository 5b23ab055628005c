-- An op that was read is in its ranges.
use Rattle.std.proofs.Common.{◌≡◌, ℕ, Bool, true, false, ◌&&◌, ◌==◌, ℤ, pos, negsuc, List, [], ◌∷◌, length, refl, sym, ap, ◌∙◌, subst, arith, Option, Some, None, Ok, Err}
use Rattle.std.specs.List.{list_all}
use Rattle.std.specs.Prelude.{nat_le, codes}
use Rattle.std.proofs.lemmas.Bool.Decides.{nat_tests}
use Rattle.std.proofs.lemmas.List.{length-map}
use Rattle.flow_types.specs.declared.expr.Expr.{Expr}
use Rattle.flow_types.specs.Tuples.{Tuple}
use Rattle.flow_types.specs.ExprTypes.{is_limited}
use Rattle.flow_types.proofs.ValueLemmas.{both_true, both_pass}
use Rattle.flow_model.specs.declared.op.Branch.{Branch}
use Rattle.flow_model.specs.declared.op.JoinKind.{JoinKind}
use Rattle.flow_model.specs.Rows.{keeps_left, keeps_right}
use Rattle.flow_model.specs.Rules.{is_from, count_limit, is_delimiter, are_distinct, is_key, are_columns, is_branch, is_there, alike, has_defaults}
use Rattle.serde_json.specs.Data.{Data}
use Rattle.serde_json.specs.Find.{get, as_str}
use Rattle.plan_json.specs.declared.reading.Flaw.TheVariants as flaw
use Rattle.plan_json.specs.declared.rows.OpName.{OpName}
use Rattle.plan_json.specs.declared.rows.OpName.TheVariants as op_name
use Rattle.plan_json.specs.Json.{◌>>=◌, only_if, collected, list_in, long}
use Rattle.plan_json.specs.Reading.{Reading, ◌<$>◌, or_flaw}
use Rattle.plan_json.specs.Names.{name_of, name_in, optional_name_in, names_in}
use Rattle.plan_json.specs.Numbers.{within, number_of, count_in, field_number, key_in}
use Rattle.plan_json.specs.Forms.{fields_in, delimiter_of, delimiter_in, combine_in, agg_of, aggs_in, order_item_of, order_in, kind_in, merge_in}
use Rattle.plan_exprs.specs.Exprs.{limited_expr, expr_of, expr_in, columns_in, literals_in, default_in}
use Rattle.plan_exprs.specs.Branches.{branch_of, branches_in}
use Rattle.plan_exprs.specs.Branches as branches
use Rattle.plan_text.specs.declared.tree.TreeOp.{TreeOp}
use Rattle.plan_text.specs.declared.tree.TreeOp.TheVariants as tree
use Rattle.plan_text.specs.Ops.{where_formed, has_body, join_op, join_of, op_in}
use Rattle.plan_check.specs.Trees.{is_formed, unnumbered}
use Rattle.plan_check.proofs.Readings.{one_by, two_by, three_by, four_by, five_by, six_by, seven_by, nine_by, only_if_some, or_flaw_ok, formed_ok, then_some, length-collected, all-collected, list_in_length, collected_length}

-- ---- numbers

within_ok : (least most : ℕ) (z : ℤ) (n : ℕ) → within least most z ≡ Some n → is_from least most n ≡ true
within_ok least most (pos m) n e = let one = only_if_some (nat_le least m && nat_le m most) m n e in ap (is_from least most) (sym one.1) ∙ one.0
within_ok least most (negsuc m) n e = cc

pub number_ok : (least most : ℕ) (d : Data) (n : ℕ) → number_of least most d ≡ Some n → is_from least most n ≡ true
number_ok least most d n e = let one = then_some (long d) (within least most) n e in within_ok least most one.0 n one.1.1

count_ok : (member : Option Data) (n : ℕ) → count_in member ≡ Ok n → is_from 1 count_limit n ≡ true
count_ok member n e =
    let some = or_flaw_ok flaw.Node (member >>= number_of 1 1000000) n e in
    let one = then_some member (number_of 1 1000000) n some in
    number_ok 1 1000000 one.0 n one.1.1

key_ok : (least : ℕ) (member : Option Data) (key : List ℕ) → key_in least member ≡ Ok key → is_key least key ≡ true
key_ok least member key e =
    let some = or_flaw_ok flaw.Node (member >>= list_in least 8 >>= λ items. collected field_number items >>= λ numbers. only_if (are_distinct numbers) numbers) key e in
    let items = then_some (member >>= list_in least 8) (λ items. collected field_number items >>= λ numbers. only_if (are_distinct numbers) numbers) key some in
    let list = then_some member (list_in least 8) items.0 items.1.0 in
    let numbers = then_some (collected field_number items.0) (λ numbers. only_if (are_distinct numbers) numbers) key items.1.1 in
    let one = only_if_some (are_distinct numbers.0) numbers.0 key numbers.1.1 in
    let long_enough : is_from least 8 (length numbers.0) ≡ true =
    ap (is_from least 8) (length-collected field_number items.0 numbers.0 numbers.1.0) ∙ list_in_length least 8 list.0 items.0 list.1.1 in
    subst (λ ks. is_key least ks ≡ true) one.1 (both_pass (is_from least 8 (length numbers.0)) (are_distinct numbers.0) long_enough one.0)

zero_at_most : (n : ℕ) → nat_le 0 n ≡ true
zero_at_most n = grind (arith, nat_tests)

-- a key of at least one field is one of any number
key_any : (key : List ℕ) → is_key 1 key ≡ true → is_key 0 key ≡ true
key_any key e =
    let one = both_true (is_from 1 8 (length key)) (are_distinct key) e in
    let two = both_true (nat_le 1 (length key)) (nat_le (length key) 8) one.0 in
    both_pass (is_from 0 8 (length key)) (are_distinct key) (both_pass (nat_le 0 (length key)) (nat_le (length key) 8) (zero_at_most (length key)) two.1) one.1

at_most_ok : {B : Type 0} (most : ℕ) (f : Data → Option B) (member : Option Data) (ys : List B) → or_flaw flaw.Node (member >>= list_in 0 most >>= collected f) ≡ Ok ys → nat_le (length ys) most ≡ true
at_most_ok most f member ys e =
    let some = or_flaw_ok flaw.Node (member >>= list_in 0 most >>= collected f) ys e in
    (both_true (nat_le 0 (length ys)) (nat_le (length ys) most) (collected_length 0 most f member ys some)).1

-- ---- delimiters

delimiter_at : (text : List ℕ) (n : ℕ) → delimiter_of text ≡ Some n → is_delimiter n ≡ true
delimiter_at [] n e = cc
delimiter_at (c ∷ cs) n e =
    let one = only_if_some ((length cs == 0) && is_delimiter c) c n e in
    ap is_delimiter (sym one.1) ∙ (both_true (length cs == 0) (is_delimiter c) one.0).1

delimiter_ok : (member : Option Data) (n : ℕ) → delimiter_in member ≡ Ok n → is_delimiter n ≡ true
delimiter_ok None n e = let same : 44 ≡ n = cc in ap is_delimiter (sym same)
delimiter_ok (Some d) n e =
    let some = or_flaw_ok flaw.Node (as_str d >>= delimiter_of) n e in
    let text = then_some (as_str d) delimiter_of n some in
    delimiter_at text.0 n text.1.1

-- ---- expressions

limited_ok : (d : Data) (e : Expr) → limited_expr d ≡ Some e → is_limited e ≡ true
limited_ok d e h =
    let one = then_some (expr_of d) (λ x. only_if (is_limited x) x) e h in
    let two = only_if_some (is_limited one.0) one.0 e one.1.1 in
    ap is_limited (sym two.1) ∙ two.0

expr_ok : (member : Option Data) (e : Expr) → expr_in member ≡ Ok e → is_limited e ≡ true
expr_ok member e h =
    let one = formed_ok member (λ d. or_flaw flaw.Expr (limited_expr d)) e h in
    limited_ok one.0 e (or_flaw_ok flaw.Expr (limited_expr one.0) e one.1.1)

limited_list : (items : List Data) (es : List Expr) → is_from 1 32 (length items) ≡ true → collected limited_expr items ≡ Some es → are_columns es ≡ true
limited_list items es size e =
    both_pass (is_from 1 32 (length es)) (list_all is_limited es)
    (ap (is_from 1 32) (length-collected limited_expr items es e) ∙ size)
    (all-collected is_limited limited_expr limited_ok items es e)

columns_ok : (member : Option Data) (es : List Expr) → columns_in member ≡ Ok es → are_columns es ≡ true
columns_ok member es h =
    let one = formed_ok (member >>= list_in 1 32) (λ items. or_flaw flaw.Expr (collected limited_expr items)) es h in
    let list = then_some member (list_in 1 32) one.0 one.1.0 in
    limited_list one.0 es (list_in_length 1 32 list.0 one.0 list.1.1) (or_flaw_ok flaw.Expr (collected limited_expr one.0) es one.1.1)

branch_ok : (d : Data) (b : Branch) → branch_of d ≡ Some b → is_branch b ≡ true
branch_ok d b h =
    let when = then_some (get (codes "when") d >>= limited_expr)
    (λ when. (get (codes "columns") d >>= list_in 1 32 >>= collected limited_expr) >>= λ columns. Some (record { when = when; columns = columns })) b h in
    let test = then_some (get (codes "when") d) limited_expr when.0 when.1.0 in
    let columns = then_some (get (codes "columns") d >>= list_in 1 32 >>= collected limited_expr) (λ columns. Some (record { when = when.0; columns = columns })) b when.1.1 in
    let items = then_some (get (codes "columns") d >>= list_in 1 32) (collected limited_expr) columns.0 columns.1.0 in
    let list = then_some (get (codes "columns") d) (list_in 1 32) items.0 items.1.0 in
    of_both when.0 columns.0 (limited_ok test.0 when.0 test.1.1) (limited_list items.0 columns.0 (list_in_length 1 32 list.0 items.0 list.1.1) items.1.1) columns.1.1
  where
    of_both : (when : Expr) (columns : List Expr) → is_limited when ≡ true → are_columns columns ≡ true → Some (record { when = when; columns = columns }) ≡ Some b → is_branch b ≡ true
    of_both when columns w c e =
        let same : record { when = when; columns = columns } ≡ b = cc in
        subst (λ x. is_branch x ≡ true) same (both_pass (is_limited when) (are_columns columns) w c)

branches_ok : (member : Option Data) (bs : List Branch) → branches_in member ≡ Ok bs → (is_from 1 8 (length bs) && list_all is_branch bs) ≡ true
branches_ok member bs h =
    let one = formed_ok (member >>= list_in 1 8 >>= λ items. only_if (list_all branches.is_branch items) items) (λ items. or_flaw flaw.Expr (collected branch_of items)) bs h in
    let some = or_flaw_ok flaw.Expr (collected branch_of one.0) bs one.1.1 in
    let items = then_some (member >>= list_in 1 8) (λ items. only_if (list_all branches.is_branch items) items) one.0 one.1.0 in
    let list = then_some member (list_in 1 8) items.0 items.1.0 in
    let same = (only_if_some (list_all branches.is_branch items.0) items.0 one.0 items.1.1).1 in
    both_pass (is_from 1 8 (length bs)) (list_all is_branch bs)
    (ap (is_from 1 8) (length-collected branch_of one.0 bs some) ∙ ap (λ ds. is_from 1 8 (length ds)) (sym same) ∙ list_in_length 1 8 list.0 items.0 list.1.1)
    (all-collected is_branch branch_of branch_ok one.0 bs some)

-- ---- defaults

default_ok : (wanted : Bool) (member : Option Data) (t : Option Tuple) → default_in wanted member ≡ Ok t → alike (is_there t) wanted ≡ true
default_ok false None t e = let same : None ≡ t = cc in ap (λ o. alike (is_there o) false) (sym same)
default_ok false (Some d) t e = cc
default_ok true member t e = go (literals_in member) e
  where
    go : (r : Reading Tuple) → (Some <$> r) ≡ Ok t → alike (is_there t) true ≡ true
    go (Ok x) h = let same : Some x ≡ t = cc in ap (λ o. alike (is_there o) true) (sym same)
    go (Err c) h = cc

-- ---- ops

pub where_ok : {A : Type 0} (b : Bool) (r : Reading A) (x : A) → where_formed b r ≡ Ok x → r ≡ Ok x
where_ok true r x e = e
where_ok false r x e = cc

-- an op is in its ranges
abbrev pub IsFormed : TreeOp → Type 0
IsFormed o = is_formed (unnumbered o) ≡ true

join_formed : (d : Data) (kind : Reading JoinKind) (o : TreeOp) → join_of d kind ≡ Ok o → IsFormed o
join_formed d (Err f) o e = cc
join_formed d (Ok kind) o e =
    seven_by IsFormed (join_op kind) (name_in (get (codes "left") d)) (name_in (get (codes "right") d)) (key_in 1 (get (codes "left_key") d)) (key_in 1 (get (codes "right_key") d))
    (columns_in (get (codes "columns") d)) (default_in (keeps_right kind) (get (codes "left_default") d)) (default_in (keeps_left kind) (get (codes "right_default") d)) o e
    (λ left right left_key right_key columns left_default right_default el er elk erk ec eld erd.
    both_pass (is_key 0 left_key && is_key 0 right_key && are_columns columns) (has_defaults kind left_default right_default)
    (both_pass (is_key 0 left_key && is_key 0 right_key) (are_columns columns)
    (both_pass (is_key 0 left_key) (is_key 0 right_key) (key_any left_key (key_ok 1 (get (codes "left_key") d) left_key elk)) (key_any right_key (key_ok 1 (get (codes "right_key") d) right_key erk)))
    (columns_ok (get (codes "columns") d) columns ec))
    (both_pass (alike (is_there right_default) (keeps_left kind)) (alike (is_there left_default) (keeps_right kind))
    (default_ok (keeps_left kind) (get (codes "right_default") d) right_default erd) (default_ok (keeps_right kind) (get (codes "left_default") d) left_default eld)))

names_ok : (member : Option Data) (names : List (List ℕ)) → names_in member ≡ Ok names → is_from 2 8 (length names) ≡ true
names_ok member names h =
    let one = formed_ok (member >>= list_in 2 8) (λ items. or_flaw flaw.Name (collected name_of items)) names h in
    let list = then_some member (list_in 2 8) one.0 one.1.0 in
    ap (is_from 2 8) (length-collected name_of one.0 names (or_flaw_ok flaw.Name (collected name_of one.0) names one.1.1)) ∙ list_in_length 2 8 list.0 one.0 list.1.1

pub op_formed : (n : OpName) (d : Data) (o : TreeOp) → op_in n d ≡ Ok o → IsFormed o
op_formed op_name.Source d o e =
    two_by IsFormed tree.Source (fields_in (get (codes "fields") d)) (delimiter_in (get (codes "delimiter") d)) o e
    (λ fields delimiter ef ed. delimiter_ok (get (codes "delimiter") d) delimiter ed)
op_formed op_name.Map d o e =
    two_by IsFormed tree.Map (name_in (get (codes "input") d)) (columns_in (get (codes "columns") d)) o e
    (λ input columns ei ec. columns_ok (get (codes "columns") d) columns ec)
op_formed op_name.Filter d o e =
    two_by IsFormed tree.Filter (name_in (get (codes "input") d)) (expr_in (get (codes "test") d)) o e
    (λ input test ei et. expr_ok (get (codes "test") d) test et)
op_formed op_name.FlatMap d o e =
    two_by IsFormed tree.FlatMap (name_in (get (codes "input") d)) (branches_in (get (codes "rows") d)) o e
    (λ input rows ei er. branches_ok (get (codes "rows") d) rows er)
op_formed op_name.Union d o e =
    one_by IsFormed tree.Union (names_in (get (codes "inputs") d)) o e
    (λ names en. ap (is_from 2 8) (length-map names (λ name. 0)) ∙ names_ok (get (codes "inputs") d) names en)
op_formed op_name.Distinct d o e = one_by IsFormed tree.Distinct (name_in (get (codes "input") d)) o e (λ input ei. refl)
op_formed op_name.Group d o e =
    four_by IsFormed tree.Group (name_in (get (codes "input") d)) (key_in 0 (get (codes "key") d)) (aggs_in (get (codes "aggs") d)) (combine_in (get (codes "combine") d)) o e
    (λ input key aggs combine ei ek ea ec.
    both_pass (is_key 0 key) (nat_le (length aggs) 16) (key_ok 0 (get (codes "key") d) key ek) (at_most_ok 16 agg_of (get (codes "aggs") d) aggs ea))
op_formed op_name.Top d o e =
    four_by IsFormed tree.Top (name_in (get (codes "input") d)) (key_in 0 (get (codes "key") d)) (order_in (get (codes "order") d)) (count_in (get (codes "count") d)) o e
    (λ input key order count ei ek eo ec.
    both_pass (is_key 0 key && nat_le (length order) 8) (is_from 1 count_limit count)
    (both_pass (is_key 0 key) (nat_le (length order) 8) (key_ok 0 (get (codes "key") d) key ek) (at_most_ok 8 order_item_of (get (codes "order") d) order eo))
    (count_ok (get (codes "count") d) count ec))
op_formed op_name.Join d o e = join_formed d (kind_in (get (codes "kind") d)) o e
op_formed op_name.Cogroup d o e =
    six_by IsFormed tree.Cogroup (name_in (get (codes "left") d)) (name_in (get (codes "right") d)) (key_in 1 (get (codes "left_key") d)) (key_in 1 (get (codes "right_key") d))
    (aggs_in (get (codes "left_aggs") d)) (aggs_in (get (codes "right_aggs") d)) o e
    (λ left right left_key right_key left_aggs right_aggs el er elk erk ela era.
    both_pass (is_key 1 left_key && is_key 1 right_key && nat_le (length left_aggs) 16) (nat_le (length right_aggs) 16)
    (both_pass (is_key 1 left_key && is_key 1 right_key) (nat_le (length left_aggs) 16)
    (both_pass (is_key 1 left_key) (is_key 1 right_key) (key_ok 1 (get (codes "left_key") d) left_key elk) (key_ok 1 (get (codes "right_key") d) right_key erk))
    (at_most_ok 16 agg_of (get (codes "left_aggs") d) left_aggs ela))
    (at_most_ok 16 agg_of (get (codes "right_aggs") d) right_aggs era))
op_formed op_name.Bulk d o e =
    five_by IsFormed tree.Bulk (name_in (get (codes "init") d)) (name_in (get (codes "bind") d)) (count_in (get (codes "max") d)) (name_in (get (codes "next") d)) (optional_name_in (get (codes "until") d)) o
    (where_ok (has_body d) _ o e)
    (λ init bind most next until ei eb em en eu. count_ok (get (codes "max") d) most em)
op_formed op_name.Delta d o e =
    nine_by IsFormed tree.Delta (name_in (get (codes "solution") d)) (name_in (get (codes "workset") d)) (name_in (get (codes "bind") d)) (key_in 1 (get (codes "key") d)) (order_in (get (codes "order") d))
    (merge_in (get (codes "merge") d)) (count_in (get (codes "max") d)) (name_in (get (codes "delta") d)) (name_in (get (codes "next") d)) o
    (where_ok (has_body d) _ o e)
    (λ solution workset bind key order merge most delta next es ew eb ek eo er em ed en.
    both_pass (is_key 1 key && nat_le (length order) 8) (is_from 1 count_limit most)
    (both_pass (is_key 1 key) (nat_le (length order) 8) (key_ok 1 (get (codes "key") d) key ek) (at_most_ok 8 order_item_of (get (codes "order") d) order eo))
    (count_ok (get (codes "max") d) most em))
op_formed op_name.Probe d o e =
    three_by IsFormed tree.Probe (name_in (get (codes "input") d)) (key_in 1 (get (codes "key") d)) (columns_in (get (codes "columns") d)) o e
    (λ input key columns ei ek ec. both_pass (is_key 1 key) (are_columns columns) (key_ok 1 (get (codes "key") d) key ek) (columns_ok (get (codes "columns") d) columns ec))
