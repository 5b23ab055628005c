-- The record begins in its first page and goes on in those behind.
use Rattle.std.proofs.Common.{◌∙◌, ap, drop, refl}
use Rattle.std.proofs.lemmas.List.{take_rest}
use Rattle.paged_view.proofs.ReadingLemmas.{record_here}
use Rattle.paged_view.proofs.reader.record_at.Goals as goal

pub returns-in-Some : goal.returns-in-Some
returns-in-Some c =
    let rest = take_rest c.deref.result.now c.args.place.page ∙ ap (drop c.args.place.page) c.deref.ensures.value in
    c.of.ensures ∙ record_here c.args.pages.now.items _ c.args.place.page c.args.place.off c.args.len c.in-Some.first.now c.in-Some.behind.now c.used_bytes.result.now _ rest c.in-Some.ensures.cases.0 c.used_bytes.ensures.value refl c.requires.within
