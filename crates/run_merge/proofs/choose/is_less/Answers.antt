use Rattle.std.proofs.Common.{sym, ◌∙◌}
use Rattle.run_merge.proofs.PrefixLemmas.{lesser_prefix, greater_prefix}
use Rattle.run_merge.proofs.choose.is_less.Goals as goal

pub returns-in-Less : goal.returns-in-Less
returns-in-Less g c =
    lesser_prefix (g.O.RecordOrder.cmp c.args.order.now) (g.met.O.RecordOrder.total c.args.order.now) (g.O.RecordOrder.is_fit c.args.order.now) (g.O.RecordOrder.prefix_of c.args.order.now) (g.met.O.RecordOrder.prefix_first c.args.order.now)
    c.in-Some.mine c.in-Some-prefix.its c.args.one.now.prefix c.args.other.now.prefix _ _ c.in-Some.is c.in-Some-prefix.is
    c.requires.one_fits c.requires.other_fits c.requires.one_kept c.requires.other_kept (sym c.by_prefix.ensures ∙ c.in-Less.is)

pub returns-in-Greater : goal.returns-in-Greater
returns-in-Greater g c =
    greater_prefix (g.O.RecordOrder.cmp c.args.order.now) (g.met.O.RecordOrder.total c.args.order.now) (g.O.RecordOrder.is_fit c.args.order.now) (g.O.RecordOrder.prefix_of c.args.order.now) (g.met.O.RecordOrder.prefix_first c.args.order.now)
    c.in-Some.mine c.in-Some-prefix.its c.args.one.now.prefix c.args.other.now.prefix _ _ c.in-Some.is c.in-Some-prefix.is
    c.requires.one_fits c.requires.other_fits c.requires.one_kept c.requires.other_kept (sym c.by_prefix.ensures ∙ c.in-Greater.is)
