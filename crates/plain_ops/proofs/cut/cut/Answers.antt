use Rattle.std.proofs.Common.{◌∙◌}
use Rattle.plain_ops.proofs.CutLemmas.{cut_is}
use Rattle.plain_ops.proofs.cut.cut.Goals as goal

pub returns : goal.returns
returns c =
    let floor = c.floor_char_boundary-place in
    c.split_at.ensures.front ∙ cut_is c.args.text.now c.args.most floor.result floor.ensures.bound floor.ensures.boundary floor.ensures.nearest
