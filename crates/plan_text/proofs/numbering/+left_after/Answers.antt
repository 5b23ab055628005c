use Rattle.std.proofs.Common.{◌-◌, sym, ap, ◌∙◌, arith, map}
use Rattle.serde_json.specs.View.{view}
use Rattle.plan_text.specs.Nodes.{count_up_to, left_after}
use Rattle.plan_text.proofs.NodeLemmas.{count_none, count_opened, left_all, left_ends, left_ends_within, left_behind}
use Rattle.plan_text.proofs.numbering.+left_after.Goals as goal

pub returns-then-depth-eq0 : goal.returns-then-depth-eq0
returns-then-depth-eq0 t c =
    let ds = map view c.args.items.now in
    sym (ap (λ d. left_after c.args.most (count_up_to d ds)) c.if-depth-eq0.true ∙ ap (left_after c.args.most) (count_none ds) ∙ left_all c.args.most)

pub returns-then-left-eq0 : goal.returns-then-left-eq0
returns-then-left-eq0 t c =
    let l = c.loop-item in
    let ds = map view c.args.items.now in
    sym (ap (left_after c.args.most) (count_opened c.args.depth ds l.invariant.some)
    ∙ left_ends (count_up_to (c.args.depth - 1)) _ c.args.items.now l.item-index c.item-item.result l.left (omega arith) c.item-item.is c.if-left-eq0.true l.invariant.left)

pub returns-in-None : goal.returns-in-None
returns-in-None t c =
    let l = c.loop-item in
    let ds = map view c.args.items.now in
    sym (ap (left_after c.args.most) (count_opened c.args.depth ds l.invariant.some)
    ∙ left_ends_within (count_up_to (c.args.depth - 1)) _ c.args.items.now l.item-index c.item-item.result l.left (count_up_to (c.args.depth - 1) (map view c.body_of.result.now)) (omega arith) c.item-item.is (omega arith)
    (ap (count_up_to (c.args.depth - 1)) (sym c.body_of.ensures)) (sym c.left_after.ensures ∙ c.in-None.is) l.invariant.left)

pub returns : goal.returns
returns t c =
    let l = c.loop-item in
    let ds = map view c.args.items.now in
    sym (ap (left_after c.args.most) (count_opened c.args.depth ds l.invariant.some) ∙ left_behind (count_up_to (c.args.depth - 1)) _ c.args.items.now l.item-index l.left (omega arith) l.invariant.left)
