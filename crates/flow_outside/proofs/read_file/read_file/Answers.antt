use Rattle.std.proofs.Common.{rules, refl, ap, ◌∙◌, ◌++◌, ◌<◌, take}
use Rattle.flow_outside.proofs.Files.{file_told, midway_start, midway_more, midway_whole, midway_ended, midway_left, midway_longer, written_back}
use Rattle.flow_outside.proofs.read_file.read_file.Goals as goal

pub pieces-init : goal.pieces-init
pieces-init g c = record {
  room = search rules;
  tells = search rules;
  later = search rules;
  there = c.in_ok-id.ensures.absent;
  midway = midway_start _ _ _ _ _ _ _ _ c.in_ok-id.ensures.started.0 c.in_ok-id.ensures.started.1 (search rules);
}

pub returns-in_err-count-clause-left : goal.returns-in_err-count-clause-left
returns-in_err-count-clause-left g c =
    let left = midway_left _ _ _ _ _ _ _ _ _ _ c.pieces.invariant.midway c.read.ensures.others c.in_err-count.ensures.refused.1 in
    search rules

pub returns-then-count-eq0-clause-whole : goal.returns-then-count-eq0-clause-whole
returns-then-count-eq0-clause-whole g c = record {
  whole = file_told _ _ _ c.pieces.invariant.there (midway_whole _ _ _ _ _ _ _ _ _ _ c.pieces.invariant.midway c.in_ok-count.ensures.given (search rules));
  within = search rules;
}

pub returns-then-count-eq0-clause-ended : goal.returns-then-count-eq0-clause-ended
returns-then-count-eq0-clause-ended g c = midway_ended _ _ _ _ _ _ _ _ _ _ _ c.pieces.invariant.midway c.read.ensures.others c.in_ok-count.ensures.goes_on (search rules)

pub pieces-preserved : goal.pieces-preserved
pieces-preserved g c = record {
  room = search rules;
  tells = search rules;
  later = λ k. search rules;
  there = c.pieces.invariant.there;
  midway = midway_more _ _ _ _ _ _ _ _ _ _ _ _ _ c.pieces.invariant.midway c.read.ensures.others c.in_ok-count.ensures.given c.in_ok-count.ensures.goes_on (search rules) (c.in_ok-extend_from_slice.ensures.items ∙ ap (λ piece. c.pieces.bytes.items ++ piece) (ap (take c.in_ok-count.count) (c.deref.ensures.value ∙ written_back _ _ _ (search rules))));
}

pub returns-in_err-extend_from_slice-clause-left : goal.returns-in_err-extend_from_slice-clause-left
returns-in_err-extend_from_slice-clause-left g c =
    let some : 0 < c.in_ok-count.count = search rules in
    let left = midway_left _ _ _ _ _ _ _ _ _ _ c.pieces.invariant.midway c.read.ensures.others (c.in_ok-count.ensures.goes_on.lives some).1 in
    search rules

pub returns-clause-left : goal.returns-clause-left
returns-clause-left g c = midway_left _ _ _ _ _ _ _ _ _ _ c.pieces.invariant.midway (λ _ _. refl) refl

pub returns-clause-too_long : goal.returns-clause-too_long
returns-clause-too_long g c = λ _. file_told _ _ _ c.pieces.invariant.there (midway_longer _ _ _ _ _ _ _ _ _ c.pieces.invariant.midway (search rules))
