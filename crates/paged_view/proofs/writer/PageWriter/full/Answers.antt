-- The oldest page is full exactly where the text reaches its end.
use Rattle.std.proofs.Common.{◌∙◌, arith, ap, slice_get}
use Rattle.paged_view.proofs.TakingLemmas.{none_full, some_full, text_full, first_is}
use Rattle.paged_view.proofs.writer.PageWriter.full.Goals as goal

pub returns-then-self-eq0-clause-some : goal.returns-then-self-eq0-clause-some
returns-then-self-eq0-clause-some c =
    none_full c.self.inside.room c.self.inside.full c.self.inside.fill c.self.inside.pages.items c.in_ok-first.field-0.now c.body_of-space.result.now c.args.self.now c.self.view_is c.if-self-eq0.true (c.in_ok-first.ensures.value ∙ ap (λ ps. slice_get ps 0) c.deref.ensures.value) c.body_of-space.ensures.value c.body_of-space.ensures.some c.self.invariant.under_way

pub returns-clause-some : goal.returns-clause-some
returns-clause-some c =
    some_full c.self.inside.room c.self.inside.full c.self.inside.fill c.self.inside.pages.items c.args.self.now c.self.view_is (omega (arith, c.if-self-eq0.false)) (omega (arith, c.self.invariant.among, c.self.inside.pages.ok.0))

pub returns-clause-text : goal.returns-clause-text
returns-clause-text c =
    text_full c.self.inside.room c.self.inside.full c.self.inside.fill c.self.inside.pages.items c.take_first.new.pages.items c.take_first.result c.body_of-space.result.now c.args.self.now c.self.view_is (omega (arith, c.if-self-eq0.false)) (omega (arith, c.self.invariant.among, c.self.inside.pages.ok.0)) c.take_first.ensures.rest c.take_first.ensures.body (first_is c.self.inside.pages.items c.in_ok-first.field-0.now c.body_of-space.result.now (c.in_ok-first.ensures.value ∙ ap (λ ps. slice_get ps 0) c.deref.ensures.value) c.body_of-space.ensures.value) c.take_first.ensures.used
