-- The room that is left, counted from the first page that isn't full.
use Rattle.std.proofs.Common.{arith}
use Rattle.paged_view.proofs.WritingLemmas.{free_is, within_rest, text_fits}
use Rattle.paged_view.proofs.writer.PageWriter.lacks.Goals as goal

pub returns : goal.returns
returns c =
    let within = within_rest c.self.inside.pages.items c.self.inside.full c.self.inside.fill c.self.invariant.under_way (omega (arith, c.self.invariant.among, c.self.inside.pages.ok.0)) in
    let left = free_is c.self.inside.pages.items c.self.inside.room c.self.inside.full c.self.inside.fill c.args.self.now c.self.view_is within in
    record {
      short = (λ yes. omega (arith, left, c.are_short.ensures.0 yes), λ less. c.are_short.ensures.1 (omega (arith, left, less)));
      fits = text_fits c.self.inside.pages.items c.self.inside.room c.self.inside.full c.self.inside.fill c.args.self.now c.self.view_is within;
    }
