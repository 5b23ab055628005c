use Rattle.std.proofs.Common.{rules, ◌∙◌, ap, None, slice_index_or}
use Rattle.flow_outside.specs.Slots.{living_in}
use Rattle.outside_host.proofs.Pushed.{pushed_none, pushed_living}
use Rattle.outside_host.proofs.slots.no_readers.Goals as goal

pub loop-number-preserved : goal.loop-number-preserved
loop-number-preserved g c = record {
  len = search rules;
  none = λ id. ap (λ slots. slice_index_or slots id None) c.in_ok-push.ensures.items
      ∙ pushed_none c.loop-number.slots.items id c.loop-number.invariant.none;
  living = ap living_in c.in_ok-push.ensures.items
      ∙ pushed_living c.loop-number.slots.items
      ∙ c.loop-number.invariant.living;
}
