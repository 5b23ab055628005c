use Rattle.std.proofs.Common.{arith, ℕ, ◌∙◌, ap}
use Rattle.std.specs.Int.{w16, to_be_bytes}
use Rattle.record_codec.proofs.PrefixLemmas.{text_stands, no_text}
use Rattle.record_codec.proofs.check.text_end.Goals as goal

pub returns-then-not-is_utf8-clause-none : goal.returns-then-not-is_utf8-clause-none
returns-then-not-is_utf8-clause-none g c = λ _ begins.
    no_text c.args.bound c.args.start c.from-2.result (g.X.Span.seen c.args.row.now) c.is_utf8.result
    (c.from-2.ensures ∙ c.length_at-len.ensures.value) c.if-not-is_utf8.true c.is_utf8.ensures begins

pub returns-clause-found : goal.returns-clause-found
returns-clause-found g c =
    text_stands c.args.bound c.args.start c.from-2.result (g.X.Span.seen c.args.row.now) c.is_utf8.result
    c.requires.bounded (omega arith) (c.from-2.ensures ∙ c.length_at-len.ensures.value)
    (ap (λ (n : ℕ). to_be_bytes w16 n) c.from-2.ensures ∙ c.length_at-len.ensures.bytes) (omega arith)
    c.if-not-is_utf8.false c.is_utf8.ensures
