use Rattle.std.proofs.Common.{option_map, sym, ap, ◌∙◌}
use Rattle.paged_view.specs.Seen.{seen_in}
use Rattle.row_pipe.proofs.Showing.{damaged_head, gives_head, place_of_head}
use Rattle.row_pipe.proofs.pipe.give_head.Goals as goal

pub give-requires-clause-place : goal.give-requires-clause-place
give-requires-clause-place g c =
    place_of_head _ c.args.p.now.takes c.args.p.now.work c.args.input.now c.args.out.now c.args.purse.now.pages (seen_in c.in-Some.row) (c.check_bytes.ensures.0 c.if-check_bytes.true) c.requires.places

pub returns-then-check_bytes-clause-adds : goal.returns-then-check_bytes-clause-adds
returns-then-check_bytes-clause-adds g c =
    gives_head c.give.result _ _ c.args.p.now.takes c.args.p.now.work c.args.input.now c.args.out.now c.give.new.out (seen_in c.in-Some.row) (ap (option_map seen_in) (sym c.in-Some.is) ∙ c.head.ensures) c.give.ensures.adds

pub returns-else-check_bytes-clause-cause : goal.returns-else-check_bytes-clause-cause
returns-else-check_bytes-clause-cause g c =
    damaged_head _ c.args.input.now.read_last _ c.args.p.now.takes c.args.input.now (seen_in c.in-Some.row) c.check_bytes.result c.damaged.result c.requires.shown (ap (option_map seen_in) (sym c.in-Some.is) ∙ c.head.ensures) c.check_bytes.ensures.1 c.if-check_bytes.false c.damaged.ensures
