-- The place is behind the last page exactly where all bytes were read.
use Rattle.std.proofs.Common.{arith}
use Rattle.paged_view.proofs.ReadingLemmas.{read_out}
use Rattle.paged_view.proofs.reader.PageReader.is_read_out.Goals as goal

pub returns : goal.returns
returns c =
    read_out c.self.inside.room c.self.inside.page c.self.inside.off c.self.inside.pending c.place_at-end.result.page c.place_at-end.result.off c.len.result c.self.inside.pages.items c.args.self.now c.self.view_is c.place_at-end.ensures.same (omega (arith, c.place_at-end.ensures.among)) (λ below. c.place_at-end.ensures.byte (omega (arith, below))) (omega (arith, c.self.inside.pages.ok.0))
