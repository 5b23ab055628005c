-- The oldest page that holds bytes is full, or is the page under way.
use Rattle.std.proofs.Common.{◌∙◌, arith, ap, slice_get, refl, length}
use Rattle.paged_view.proofs.TakingLemmas.{text_full, first_is, length_full, used_full}
use Rattle.paged_view.proofs.writer.PageWriter.last.Goals as goal

pub returns-then-self-gt0-clause-some : goal.returns-then-self-gt0-clause-some
returns-then-self-gt0-clause-some c =
    let first = first_is c.self.inside.pages.items c.in_ok-first.field-0.now c.body_of-space.result.now (c.in_ok-first.ensures.value ∙ ap (λ ps. slice_get ps 0) c.deref.ensures.value) c.body_of-space.ensures.value in
    let long = length_full c.self.inside.room c.self.inside.full c.self.inside.fill c.self.inside.pages.items c.args.self.now c.self.view_is c.if-self-gt0.true (omega (arith, c.self.invariant.among, c.self.inside.pages.ok.0)) in
    (λ yes. omega (arith, long, c.body_of-space.ensures.some, ap length first), λ some. refl)

pub returns-then-self-gt0-clause-used : goal.returns-then-self-gt0-clause-used
returns-then-self-gt0-clause-used c =
    let first = first_is c.self.inside.pages.items c.in_ok-first.field-0.now c.body_of-space.result.now (c.in_ok-first.ensures.value ∙ ap (λ ps. slice_get ps 0) c.deref.ensures.value) c.body_of-space.ensures.value in
    let long = length_full c.self.inside.room c.self.inside.full c.self.inside.fill c.self.inside.pages.items c.args.self.now c.self.view_is c.if-self-gt0.true (omega (arith, c.self.invariant.among, c.self.inside.pages.ok.0)) in
    record {
      is = used_full c.take_first.result c.body_of-space.result.now c.self.inside.pages.items (length c.args.self.now.text) c.take_first.ensures.body first c.take_first.ensures.used long;
      some = omega (arith, c.take_first.ensures.used, c.body_of-space.ensures.some);
    }

pub returns-then-self-gt0-clause-text : goal.returns-then-self-gt0-clause-text
returns-then-self-gt0-clause-text c =
    text_full c.self.inside.room c.self.inside.full c.self.inside.fill c.self.inside.pages.items c.take_first.new.pages.items c.take_first.result c.body_of-space.result.now c.args.self.now c.self.view_is c.if-self-gt0.true (omega (arith, c.self.invariant.among, c.self.inside.pages.ok.0)) c.take_first.ensures.rest c.take_first.ensures.body (first_is c.self.inside.pages.items c.in_ok-first.field-0.now c.body_of-space.result.now (c.in_ok-first.ensures.value ∙ ap (λ ps. slice_get ps 0) c.deref.ensures.value) c.body_of-space.ensures.value) c.take_first.ensures.used
