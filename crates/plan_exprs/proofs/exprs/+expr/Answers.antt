use Rattle.std.proofs.Common.{◌≡◌, ◌+◌, ◌-◌, ◌∙◌, List, map, sym, ap, ap₂, subst, IfOk, arith, Option}
use Rattle.serde_json.specs.declared.value.Value.{Value}
use Rattle.serde_json.specs.View.{view}
use Rattle.plan_exprs.specs.declared.counted.Counted.{Counted}
use Rattle.plan_exprs.specs.Exprs.{expr_of, of_parts}
use Rattle.plan_exprs.specs.Counted.{part_of, counted, counted_un, counted_cut, counted_bin, counted_if}
use Rattle.plan_exprs.proofs.Limited.{counted-un_of, counted-cut_of, counted-bin_of, counted-if_of, counted-unopened, counted-opened}
use Rattle.plan_exprs.proofs.exprs.+expr.Goals as goal

pub un-returns : goal.un-returns
un-returns t c =
    subst (λ (o : Option Counted). IfOk c.counted_un.result (λ e. e ≡ o)) (ap (counted_un c.args.op) c.in_ok-a.ensures ∙ sym (counted-un_of c.args.lists c.args.op (expr_of (view c.args.a.now)))) c.counted_un.ensures

pub cut-returns : goal.cut-returns
cut-returns t c =
    subst (λ (o : Option Counted). IfOk c.counted_cut.result (λ e. e ≡ o)) (ap (counted_cut c.args.most) c.in_ok-a.ensures ∙ sym (counted-cut_of c.args.lists c.args.most (expr_of (view c.args.a.now)))) c.counted_cut.ensures

pub bin-returns : goal.bin-returns
bin-returns t c =
    subst (λ (o : Option Counted). IfOk c.counted_bin.result (λ e. e ≡ o))
    (ap₂ (counted_bin c.args.op) c.in_ok-a.ensures c.in_ok-b.ensures ∙ sym (counted-bin_of c.args.lists c.args.op (expr_of (view c.args.a.now)) (expr_of (view c.args.b.now)))) c.counted_bin.ensures

pub choice-returns : goal.choice-returns
choice-returns t c =
    subst (λ (o : Option Counted). IfOk c.counted_if.result (λ e. e ≡ o))
    (ap (λ (o : Option Counted). counted_if o c.in_ok-a.a c.in_ok-b.b) c.in_ok-c.ensures
    ∙ ap₂ (counted_if (counted c.args.lists (expr_of (view c.args.c.now)))) c.in_ok-a.ensures c.in_ok-b.ensures
    ∙ sym (counted-if_of c.args.lists (expr_of (view c.args.c.now)) (expr_of (view c.args.a.now)) (expr_of (view c.args.b.now)))) c.counted_if.ensures

pub expr_of-returns-then-lists-eq0 : goal.expr_of-returns-then-lists-eq0
expr_of-returns-then-lists-eq0 t c =
    counted-unopened c.args.lists (view c.args.value.now) (map view c.in-Some.items.now.items) c.in-Some.ensures c.if-lists-eq0.true

pub expr_of-returns-else-lists-eq0 : goal.expr_of-returns-else-lists-eq0
expr_of-returns-else-lists-eq0 t c =
    subst (λ (o : Option Counted). IfOk c.of_items.result (λ e. e ≡ o))
    (ap (λ (vs : List Value). counted (c.args.lists - 1 + 1) (of_parts (map part_of (map view vs)))) c.as_slice.ensures.value
    ∙ counted-opened c.args.lists (view c.args.value.now) (map view c.in-Some.items.now.items) c.in-Some.ensures (omega arith)) c.of_items.ensures
