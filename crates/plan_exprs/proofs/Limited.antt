-- Limits that are looked at from the inside out give what the limits of the whole give.
use Rattle.std.proofs.Common.{List, [], codes, ◌∷◌, map, option_map, ap₂, ◌-◌, ◌≡◌, ℕ, ◌+◌, ◌≤◌, max, if◌then◌else◌, nat_le, Bool, true, false, ◌&&◌, Option, Some, None, refl, sym, ap, ◌∙◌, arith}
use Rattle.std.proofs.lemmas.Bool.{false≢true}
use Rattle.std.proofs.lemmas.Bool.Decides.{nat_tests}
use Rattle.std.proofs.lemmas.Option.{same_Some}
use Rattle.serde_json.specs.Data.{Data, null, boolean, number, string, array, object, Items, no_items, item}
use Rattle.serde_json.specs.Find.{as_str}
use Rattle.flow_types.specs.declared.expr.UnOp.{UnOp}
use Rattle.flow_types.specs.declared.expr.BinOp.{BinOp}
use Rattle.flow_types.specs.declared.expr.Expr.{Expr}
use Rattle.flow_types.specs.declared.expr.Expr.TheVariants as expr
use Rattle.flow_types.specs.ExprTypes.{Extent, extent_of, part_limit}
use Rattle.plan_exprs.specs.declared.counted.Counted.{Counted}
use Rattle.plan_json.specs.Json.{◌>>=◌, only_if, listed, items_in, is_text, meaning}
use Rattle.plan_json.specs.Numbers.{number_of, field_number}
use Rattle.flow_types.specs.Limits.{text_limit}
use Rattle.plan_exprs.specs.Exprs.{Part, un_ops, bin_ops, un_of, bin_of, cut_of, if_of, of_parts, expr_of, parts_of}
use Rattle.plan_exprs.specs.Counted.{part_of, counted, sized, counted_un, counted_cut, counted_bin, counted_if}
use Rattle.plan_exprs.proofs.Extents.{extent-Field, extent-Un, extent-Bin, extent-If, extent-Cut}

deeper : (a n : ℕ) → nat_le (1 + a) (n + 1) ≡ nat_le a n
deeper a n = grind (arith, nat_tests)

both_deeper : (a b n : ℕ) → nat_le (1 + max a b) (n + 1) ≡ (nat_le a n && nat_le b n)
both_deeper a b n = grind (arith, nat_tests)

three_deeper : (a b c n : ℕ) → nat_le (1 + max a (max b c)) (n + 1) ≡ (nat_le a n && (nat_le b n && nat_le c n))
three_deeper a b c n = grind (arith, nat_tests)

fewer : (a b n : ℕ) → a ≤ b → nat_le b n ≡ true → nat_le a n ≡ true
fewer a b n few h = grind (arith, nat_tests)

-- one part's limits, where few parts of the whole are few of the part
gate_one : {A B : Type 0} (b c d : Bool) (x : B) (y : A) (k : A → Option B) → (b ≡ true → d ≡ true) → k y ≡ only_if b x → only_if (b && c) x ≡ (only_if (d && c) y >>= k)
gate_one true true true x y k h e = sym e
gate_one true false true x y k h e = refl
gate_one true c false x y k h e = absurd (false≢true (h refl))
gate_one false true true x y k h e = sym e
gate_one false false true x y k h e = refl
gate_one false c false x y k h e = refl

shut_two : {A B : Type 0} (p q : Bool) (y z : A) (k : A → A → Option B) → k y z ≡ None → None ≡ (only_if p y >>= λ u. only_if q z >>= λ v. k u v)
shut_two true true y z k e = sym e
shut_two true false y z k e = refl
shut_two false q y z k e = refl

open_two : {A B : Type 0} (p q : Bool) (x : B) (y z : A) (k : A → A → Option B) → k y z ≡ Some x → only_if (p && q) x ≡ (only_if p y >>= λ u. only_if q z >>= λ v. k u v)
open_two true true x y z k e = sym e
open_two true false x y z k e = refl
open_two false q x y z k e = refl

-- the limits of two parts
gate_two : {A B : Type 0} (b ca cb da db : Bool) (x : B) (y z : A) (k : A → A → Option B) → (b ≡ true → da ≡ true) → (b ≡ true → db ≡ true) → k y z ≡ only_if b x
    → only_if (b && (ca && cb)) x ≡ (only_if (da && ca) y >>= λ u. only_if (db && cb) z >>= λ v. k u v)
gate_two true ca cb true true x y z k f g e = open_two ca cb x y z k e
gate_two true ca cb true false x y z k f g e = absurd (false≢true (g refl))
gate_two true ca cb false db x y z k f g e = absurd (false≢true (f refl))
gate_two false ca cb da db x y z k f g e = shut_two (da && ca) (db && cb) y z k e

-- the limits of three parts
gate_three : {A B : Type 0} (b cc' ca cb dc da db : Bool) (x : B) (w y z : A) (k : A → A → A → Option B) → (b ≡ true → dc ≡ true) → (b ≡ true → da ≡ true) → (b ≡ true → db ≡ true) → k w y z ≡ only_if b x
    → only_if (b && (cc' && (ca && cb))) x ≡ (only_if (dc && cc') w >>= λ s. only_if (da && ca) y >>= λ u. only_if (db && cb) z >>= λ v. k s u v)
gate_three true true ca cb true true true x w y z k f g h e = open_two ca cb x y z (k w) e
gate_three true false ca cb true true true x w y z k f g h e = refl
gate_three true cc' ca cb false da db x w y z k f g h e = absurd (false≢true (f refl))
gate_three true cc' ca cb true false db x w y z k f g h e = absurd (false≢true (g refl))
gate_three true cc' ca cb true true false x w y z k f g h e = absurd (false≢true (h refl))
gate_three false true ca cb true da db x w y z k f g h e = shut_two (da && ca) (db && cb) y z (k w) e
gate_three false false ca cb true da db x w y z k f g h e = refl
gate_three false cc' ca cb false da db x w y z k f g h e = refl

-- an expression whose extent is this, where it is within the limits
measured : ℕ → Expr → Extent → Option Counted
measured lists e x = only_if (nat_le x.parts part_limit && nat_le x.lists lists) (record { expr = e; parts = x.parts })

pub counted-un_of : (n : ℕ) (op : UnOp) (p : Option Expr) → counted (n + 1) (un_of op p) ≡ counted_un op (counted n p)
unfolding measured
counted-un_of n op None = refl
counted-un_of n op (Some a) =
    let x = extent_of a in
    ap (measured (n + 1) (expr.Un op a)) (extent-Un op a)
    ∙ ap (λ b. only_if (nat_le (1 + x.parts) part_limit && b) (record { expr = expr.Un op a; parts = 1 + x.parts })) (deeper x.lists n)
    ∙ gate_one _ _ _ _ _ (λ (z : Counted). sized (expr.Un op z.expr) (1 + z.parts)) (fewer x.parts (1 + x.parts) part_limit (omega arith)) refl

pub counted-cut_of : (n k : ℕ) (p : Option Expr) → counted (n + 1) (cut_of k p) ≡ counted_cut k (counted n p)
unfolding measured
counted-cut_of n k None = refl
counted-cut_of n k (Some a) =
    let x = extent_of a in
    ap (measured (n + 1) (expr.Cut a k)) (extent-Cut a k)
    ∙ ap (λ b. only_if (nat_le (1 + x.parts) part_limit && b) (record { expr = expr.Cut a k; parts = 1 + x.parts })) (deeper x.lists n)
    ∙ gate_one _ _ _ _ _ (λ (z : Counted). sized (expr.Cut z.expr k) (1 + z.parts)) (fewer x.parts (1 + x.parts) part_limit (omega arith)) refl

-- no value where the last of the parts has none
no_second : (o : Option Counted) (k : Counted → Counted → Option Counted) → None ≡ (o >>= λ u. None >>= λ v. k u v)
no_second None k = refl
no_second (Some x) k = refl

no_third : (o q : Option Counted) (k : Counted → Counted → Counted → Option Counted) → None ≡ (o >>= λ s. q >>= λ u. None >>= λ v. k s u v)
no_third None q k = refl
no_third (Some x) None k = refl
no_third (Some x) (Some y) k = refl

pub counted-bin_of : (n : ℕ) (op : BinOp) (p q : Option Expr) → counted (n + 1) (bin_of op p q) ≡ counted_bin op (counted n p) (counted n q)
unfolding measured
counted-bin_of n op None q = refl
counted-bin_of n op (Some a) None = no_second (counted n (Some a)) (λ u v. sized (expr.Bin op u.expr v.expr) (1 + u.parts + v.parts))
counted-bin_of n op (Some a) (Some b) =
    let x = extent_of a in
    let y = extent_of b in
    ap (measured (n + 1) (expr.Bin op a b)) (extent-Bin op a b)
    ∙ ap (λ c. only_if (nat_le (1 + x.parts + y.parts) part_limit && c) (record { expr = expr.Bin op a b; parts = 1 + x.parts + y.parts })) (both_deeper x.lists y.lists n)
    ∙ gate_two _ _ _ _ _ _ _ _ (λ (u v : Counted). sized (expr.Bin op u.expr v.expr) (1 + u.parts + v.parts))
    (fewer x.parts (1 + x.parts + y.parts) part_limit (omega arith)) (fewer y.parts (1 + x.parts + y.parts) part_limit (omega arith)) refl

pub counted-if_of : (n : ℕ) (p q r : Option Expr) → counted (n + 1) (if_of p q r) ≡ counted_if (counted n p) (counted n q) (counted n r)
unfolding measured
counted-if_of n None q r = refl
counted-if_of n (Some c) None r = no_second (counted n (Some c)) (λ s u. counted n r >>= λ v. sized (expr.If s.expr u.expr v.expr) (1 + s.parts + u.parts + v.parts))
counted-if_of n (Some c) (Some a) None = no_third (counted n (Some c)) (counted n (Some a)) (λ s u v. sized (expr.If s.expr u.expr v.expr) (1 + s.parts + u.parts + v.parts))
counted-if_of n (Some c) (Some a) (Some b) =
    let w = extent_of c in
    let x = extent_of a in
    let y = extent_of b in
    ap (measured (n + 1) (expr.If c a b)) (extent-If c a b)
    ∙ ap (λ d. only_if (nat_le (1 + w.parts + x.parts + y.parts) part_limit && d) (record { expr = expr.If c a b; parts = 1 + w.parts + x.parts + y.parts })) (three_deeper w.lists x.lists y.lists n)
    ∙ gate_three _ _ _ _ _ _ _ _ _ _ _ (λ (s u v : Counted). sized (expr.If s.expr u.expr v.expr) (1 + s.parts + u.parts + v.parts))
    (fewer w.parts (1 + w.parts + x.parts + y.parts) part_limit (omega arith)) (fewer x.parts (1 + w.parts + x.parts + y.parts) part_limit (omega arith)) (fewer y.parts (1 + w.parts + x.parts + y.parts) part_limit (omega arith)) refl

none_above : (a : ℕ) → nat_le (1 + a) 0 ≡ false
none_above a = grind (arith, nat_tests)

shut : {A : Type 0} (b c : Bool) (x : A) → c ≡ false → only_if (b && c) x ≡ None
shut b true x e = absurd (false≢true (sym e))
shut true false x e = refl
shut false false x e = refl

-- where no list may be opened, an expression that is a list is past the limits
unopened : (e : Expr) (parts lists : ℕ) → extent_of e ≡ record { parts = parts; lists = 1 + lists } → counted 0 (Some e) ≡ None
unfolding measured
unopened e parts lists is = ap (measured 0 e) is ∙ shut _ _ _ (none_above lists)

un-unopened : (op : UnOp) (p : Option Expr) → counted 0 (un_of op p) ≡ None
un-unopened op None = refl
un-unopened op (Some a) = unopened _ _ _ (extent-Un op a)

cut-unopened : (n : ℕ) (p : Option Expr) → counted 0 (cut_of n p) ≡ None
cut-unopened n None = refl
cut-unopened n (Some a) = unopened _ _ _ (extent-Cut a n)

bin-unopened : (op : BinOp) (p q : Option Expr) → counted 0 (bin_of op p q) ≡ None
bin-unopened op None q = refl
bin-unopened op (Some a) None = refl
bin-unopened op (Some a) (Some b) = unopened _ _ _ (extent-Bin op a b)

if-unopened : (p q r : Option Expr) → counted 0 (if_of p q r) ≡ None
if-unopened None q r = refl
if-unopened (Some c) None r = refl
if-unopened (Some c) (Some a) None = refl
if-unopened (Some c) (Some a) (Some b) = unopened _ _ _ (extent-If c a b)

field-unopened : (o : Option ℕ) → counted 0 (option_map expr.Field o) ≡ None
field-unopened None = refl
field-unopened (Some k) = unopened _ 1 0 (extent-Field k)

one-unopened : (b : Bool) (i : Option ℕ) (m : Option UnOp) (p : Option Expr) → counted 0 (if b then option_map expr.Field i else (m >>= λ op. un_of op p)) ≡ None
one-unopened true i m p = field-unopened i
one-unopened false i None p = refl
one-unopened false i (Some op) p = un-unopened op p

two-unopened : (b : Bool) (i : Option ℕ) (m : Option BinOp) (p q : Option Expr) → counted 0 (if b then (i >>= λ n. cut_of n p) else (m >>= λ op. bin_of op p q)) ≡ None
two-unopened true None m p q = refl
two-unopened true (Some n) m p q = cut-unopened n p
two-unopened false i None p q = refl
two-unopened false i (Some op) p q = bin-unopened op p q

three-unopened : (b : Bool) (p q r : Option Expr) → counted 0 (if b then if_of p q r else None) ≡ None
three-unopened true p q r = if-unopened p q r
three-unopened false p q r = refl

parts-unopened : (ps : List Part) → counted 0 (of_parts ps) ≡ None
parts-unopened [] = refl
parts-unopened (w ∷ []) = refl
parts-unopened (w ∷ a ∷ []) = one-unopened (is_text (codes "f") w.json) (field_number a.json) (as_str w.json >>= meaning un_ops) a.expr
parts-unopened (w ∷ a ∷ b ∷ []) = two-unopened (is_text (codes "cut") w.json) (number_of 0 text_limit b.json) (as_str w.json >>= meaning bin_ops) a.expr b.expr
parts-unopened (w ∷ c ∷ a ∷ b ∷ []) = three-unopened (is_text (codes "if") w.json) c.expr a.expr b.expr
parts-unopened (w ∷ c ∷ a ∷ b ∷ d ∷ ps) = refl

parts_of-listed : (ds : Items) → parts_of ds ≡ map part_of (listed ds)
parts_of-listed no_items = refl
parts_of-listed (item d ds) = ap (λ rest. part_of d ∷ rest) (parts_of-listed ds)

-- the expression that an array is
pub expr_of-array : (d : Data) (ds : List Data) → Some ds ≡ items_in d → expr_of d ≡ of_parts (map part_of ds)
expr_of-array null ds e = cc
expr_of-array (boolean b) ds e = cc
expr_of-array (number n) ds e = cc
expr_of-array (string s) ds e = cc
expr_of-array (array items) ds e = ap of_parts (parts_of-listed items ∙ ap (map part_of) (same_Some _ _ (sym e)))
expr_of-array (object ms) ds e = cc

pub counted-unopened : (n : ℕ) (d : Data) (ds : List Data) → Some ds ≡ items_in d → n ≡ 0 → None ≡ counted n (expr_of d)
counted-unopened n d ds e z =
    sym (ap₂ counted z (expr_of-array d ds e) ∙ parts-unopened (map part_of ds))

pub counted-opened : (n : ℕ) (d : Data) (ds : List Data) → Some ds ≡ items_in d → n - 1 + 1 ≡ n → counted (n - 1 + 1) (of_parts (map part_of ds)) ≡ counted n (expr_of d)
counted-opened n d ds e h = ap₂ counted h (sym (expr_of-array d ds e))
