use Rattle.std.proofs.Common.{arith, ◌≡◌, length, length-set, ◌∙◌}
use Rattle.record_codec.proofs.Utf8Lemmas.{front_more, no_char}
use Rattle.record_codec.proofs.utf8.whole_at_seam.Goals as goal

pub loop-i-preserved : goal.loop-i-preserved
loop-i-preserved g c =
    let long : length c.loop-i.front ≡ 4 = c.loop-i.invariant.long in
    record {
      long = length-set c.loop-i.front c.loop-i.i c.at.result ∙ long;
      same = front_more c.loop-i.front (g.X.Span.seen c.args.row.now) c.args.at c.loop-i.i c.at.result
          (omega arith) (omega arith) c.loop-i.invariant.same c.at.ensures;
    }

pub returns-clause-none : goal.returns-clause-none
returns-clause-none g c = λ zero whole.
    no_char (g.X.Span.seen c.args.row.now) c.args.at c.args.end c.loop-i.i c.min-count.result c.loop-i.front
    c.requires.order c.requires.inside (omega arith) c.min-count.ensures c.loop-i.invariant.same
    (λ n pos short text. c.valid_len.ensures.longest n (omega arith) short text) whole
