use Rattle.std.proofs.Common.{◌≡◌, ℕ, ◌<◌, false, slice_index_or, ap, sym, ◌∙◌, arith}
use Rattle.run_merge.specs.Merging.{yields}
use Rattle.run_merge.specs.declared.source.Source.{Source}
use Rattle.run_merge.proofs.PlaceLemmas.{first_of, known_on, more_places}
use Rattle.run_merge.proofs.TakeLemmas.{first_given}
use Rattle.run_merge.proofs.fill.fill.Goals as goal

pub returns-in-Err-clause-segments : goal.returns-in-Err-clause-segments
returns-in-Err-clause-segments g c h = c.fill_at.ensures.segments h ∙ c.loop-at.invariant.segments h

pub loop-at-preserved : goal.loop-at-preserved
loop-at-preserved g c =
    let before = c.loop-at.invariant in
    let step = c.fill_at.ensures in
    record {
      ready = step.ready;
      fitting = step.fitting;
      known = known_on (g.O.RecordOrder.cmp c.args.order.now) (yields (g.O.RecordOrder.cmp c.args.order.now) (g.O.RecordOrder.is_fit c.args.order.now) g.R.RecordStream.shown g.R.RecordStream.left) _ _ step.tells c.loop-at.sources c.fill_at.new.sources c.in-Ok.ensures.rows before.known;
      waits = more_places (λ s. s.given ≡ false) c.loop-at.sources c.fill_at.new.sources c.loop-at.at step.same before.waits c.in-Ok.ensures.waits;
      rows = λ rows m. c.in-Ok.ensures.rows rows (before.rows rows m);
      later = omega (arith, step.later, before.later);
      count = step.count ∙ before.count;
      segments = λ h. step.segments h ∙ before.segments h;
      tells = step.tells ∙ before.tells;
      counted = step.counted ∙ before.counted;
      faults = omega (arith, step.cause.later, before.faults);
    }

pub returns-in-Err-clause-damaged : goal.returns-in-Err-clause-damaged
returns-in-Err-clause-damaged g c block is =
    let d : Source g.row.R.Denot = first_of c.loop-at.sources c.loop-at.at (omega (arith, c.loop-at-test.true)) in
    let before : (i : ℕ) (e : Source g.row.R.Denot) → i < c.loop-at.at → (slice_index_or c.fill_at.new.sources i e).given ≡ false =
    λ i e low. ap (λ (s : Source g.row.R.Denot). s.given) (c.fill_at.ensures.same i e (λ same. absurd (omega arith))) ∙ c.loop-at.invariant.waits i e low in
    c.in-Err.ensures.damaged block d is
    ∙ sym (first_given g.R.RecordStream.block_read c.fill_at.new.sources c.loop-at.at d (omega (arith, c.fill_at.ensures.count, c.loop-at-test.true)) before (c.in-Err.ensures.failed d))
