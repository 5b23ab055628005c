use Rattle.std.proofs.Common.{arith, ◌+◌, ◌≤◌, ◌-◌, ◌↔◌, take, drop, IsUtf8}
use Rattle.record_codec.proofs.Utf8Lemmas.{text_behind}
use Rattle.record_codec.proofs.utf8.is_utf8.Goals as goal

pub loop-at-preserved : goal.loop-at-preserved
loop-at-preserved g c =
    let order : c.loop-at.at + c.whole_at-whole.result ≤ c.args.end = omega arith in
    let step : IsUtf8 (take (c.args.end - c.loop-at.at) (drop c.loop-at.at (g.X.Span.seen c.args.row.now)))
    ↔ IsUtf8 (take (c.args.end - (c.loop-at.at + c.whole_at-whole.result)) (drop (c.loop-at.at + c.whole_at-whole.result) (g.X.Span.seen c.args.row.now))) =
    text_behind (g.X.Span.seen c.args.row.now) c.loop-at.at c.whole_at-whole.result c.args.end order c.requires.inside c.whole_at-whole.ensures.whole in
    record {
      order = order;
      rest = ((λ h. step.0 (c.loop-at.invariant.rest.0 h)), (λ h. c.loop-at.invariant.rest.1 (step.1 h)));
    }
